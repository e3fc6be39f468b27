use Rattle.words.proofs.+is_word.Given as goal

abbrev pub decreases-is_word : goal.decreases-is_word
decreases-is_word l = l.n
