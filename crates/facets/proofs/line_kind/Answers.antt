use Rattle.facets.proofs.line_kind.Goals as goal

pub record_kind-requires : goal.record_kind-requires
record_kind-requires c = tt

pub returns-in-Bad : goal.returns-in-Bad
returns-in-Bad c = rw c.in-Bad.is

pub returns-in-Wrong : goal.returns-in-Wrong
returns-in-Wrong c = rw c.in-Wrong.is

pub returns-in-Carried : goal.returns-in-Carried
returns-in-Carried c = rw c.in-Carried.is

pub returns-in-Typed : goal.returns-in-Typed
returns-in-Typed c = rw c.in-Typed.is c.record_kind.ensures
