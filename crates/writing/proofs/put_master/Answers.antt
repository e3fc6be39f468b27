use Rattle.writing.proofs.Recounts.{recounted}
use Rattle.words.specs.Words.{bytes_of}
use Rattle.writing.proofs.put_master.Goals as goal

pub returns : goal.returns
unfolding bytes_of
returns c = recounted _ _ _ _ _ c.requires.five_digits c.requires.at_in_bounds c.tally_of.ensures c.write.ensures.line_after
