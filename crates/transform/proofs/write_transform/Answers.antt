use Rattle.transform.specs.Transforms.{transform_kind}
use Rattle.transform.proofs.Named.{named_line}
use Rattle.transform.proofs.write_transform.Goals as goal

pub returns-clause-line_after : goal.returns-clause-line_after
returns-clause-line_after c = named_line _ (transform_kind c.args.scale c.args.axis) _ _ _ _ c.name_of.ensures c.write.ensures.line_after
