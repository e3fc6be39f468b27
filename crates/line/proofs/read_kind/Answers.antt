use mathlib.Core.Bool.{true, false}
use Rattle.std.proofs.lemmas.Result.{err_from_is_err_and}
use Rattle.transform.specs.declared.Axis.TheVariants as axis
use Rattle.line.specs.declared.Bare.{Bare}
use Rattle.line.specs.declared.Record.TheVariants as rec
use Rattle.line.specs.Lines.{crystal_read, reading_of}
use Rattle.line.proofs.Returns.{judged_good, judged_wrong}
use Rattle.line.proofs.Untyped.{untyped}
use Rattle.line.proofs.read_kind.Goals as goal

pub returns-in_err-read-in-Atom : goal.returns-in_err-read-in-Atom
unfolding reading_of
returns-in_err-read-in-Atom c =
    let p = err_from_is_err_and c.from_residual.result c.from_residual.ensures.1 in
    rw (p.1, p.2, c.in-Atom.is) (judged_wrong _ _ _ _ c.in_err-read-in-Atom.ensures)

pub returns-in_ok-read-in-Atom : goal.returns-in_ok-read-in-Atom
unfolding reading_of
returns-in_ok-read-in-Atom c = rw c.in-Atom.is (judged_good (λ a. rec.Coordinate false a) _ _ _ c.in_ok-read-in-Atom.ensures)

pub returns-in_err-read-in-Hetatm : goal.returns-in_err-read-in-Hetatm
unfolding reading_of
returns-in_err-read-in-Hetatm c =
    let p = err_from_is_err_and c.from_residual-in_err-read-in-Hetatm.result c.from_residual-in_err-read-in-Hetatm.ensures.1 in
    rw (p.1, p.2, c.in-Hetatm.is) (judged_wrong _ _ _ _ c.in_err-read-in-Hetatm.ensures)

pub returns-in_ok-read-in-Hetatm : goal.returns-in_ok-read-in-Hetatm
unfolding reading_of
returns-in_ok-read-in-Hetatm c = rw c.in-Hetatm.is (judged_good (λ a. rec.Coordinate true a) _ _ _ c.in_ok-read-in-Hetatm.ensures)

pub returns-in_err-read-in-Ter : goal.returns-in_err-read-in-Ter
unfolding reading_of
returns-in_err-read-in-Ter c =
    let p = err_from_is_err_and c.from_residual-in_err-read-in-Ter.result c.from_residual-in_err-read-in-Ter.ensures.1 in
    rw (p.1, p.2, c.in-Ter.is) (judged_wrong _ _ _ _ c.in_err-read-in-Ter.ensures)

pub returns-in_ok-read-in-Ter : goal.returns-in_ok-read-in-Ter
unfolding reading_of
returns-in_ok-read-in-Ter c = rw c.in-Ter.is (judged_good rec.Ter _ _ _ c.in_ok-read-in-Ter.ensures)

pub returns-in_err-read-in-Helix : goal.returns-in_err-read-in-Helix
unfolding reading_of
returns-in_err-read-in-Helix c =
    let p = err_from_is_err_and c.from_residual-in_err-read-in-Helix.result c.from_residual-in_err-read-in-Helix.ensures.1 in
    rw (p.1, p.2, c.in-Helix.is) (judged_wrong _ _ _ _ c.in_err-read-in-Helix.ensures)

pub returns-in_ok-read-in-Helix : goal.returns-in_ok-read-in-Helix
unfolding reading_of
returns-in_ok-read-in-Helix c = rw c.in-Helix.is (judged_good rec.Helix _ _ _ c.in_ok-read-in-Helix.ensures)

pub returns-in_err-read-in-Sheet : goal.returns-in_err-read-in-Sheet
unfolding reading_of
returns-in_err-read-in-Sheet c =
    let p = err_from_is_err_and c.from_residual-in_err-read-in-Sheet.result c.from_residual-in_err-read-in-Sheet.ensures.1 in
    rw (p.1, p.2, c.in-Sheet.is) (judged_wrong _ _ _ _ c.in_err-read-in-Sheet.ensures)

pub returns-in_ok-read-in-Sheet : goal.returns-in_ok-read-in-Sheet
unfolding reading_of
returns-in_ok-read-in-Sheet c = rw c.in-Sheet.is (judged_good rec.Sheet _ _ _ c.in_ok-read-in-Sheet.ensures)

pub returns-in_err-read-in-Conect : goal.returns-in_err-read-in-Conect
unfolding reading_of
returns-in_err-read-in-Conect c =
    let p = err_from_is_err_and c.from_residual-in_err-read-in-Conect.result c.from_residual-in_err-read-in-Conect.ensures.1 in
    rw (p.1, p.2, c.in-Conect.is) (judged_wrong _ _ _ _ c.in_err-read-in-Conect.ensures)

pub returns-in_ok-read-in-Conect : goal.returns-in_ok-read-in-Conect
unfolding reading_of
returns-in_ok-read-in-Conect c = rw c.in-Conect.is (judged_good rec.Conect _ _ _ c.in_ok-read-in-Conect.ensures)

pub returns-in_err-read-in-Master : goal.returns-in_err-read-in-Master
unfolding reading_of
returns-in_err-read-in-Master c =
    let p = err_from_is_err_and c.from_residual-in_err-read-in-Master.result c.from_residual-in_err-read-in-Master.ensures.1 in
    rw (p.1, p.2, c.in-Master.is) (judged_wrong _ _ _ _ c.in_err-read-in-Master.ensures)

pub returns-in_ok-read-in-Master : goal.returns-in_ok-read-in-Master
unfolding reading_of
returns-in_ok-read-in-Master c = rw c.in-Master.is (judged_good rec.Master _ _ _ c.in_ok-read-in-Master.ensures)

pub returns-in_err-read-in-End : goal.returns-in_err-read-in-End
unfolding reading_of
returns-in_err-read-in-End c =
    let p = err_from_is_err_and c.from_residual-in_err-read-in-End.result c.from_residual-in_err-read-in-End.ensures.1 in
    rw (p.1, p.2, c.in-End.is) (judged_wrong _ _ _ _ c.in_err-read-in-End.ensures)

pub returns-in_ok-read-in-End : goal.returns-in_ok-read-in-End
unfolding reading_of
returns-in_ok-read-in-End c = rw c.in-End.is (judged_good (λ (b : Bare). rec.End) _ _ _ c.in_ok-read-in-End.ensures)

pub returns-in_err-read-in-Model : goal.returns-in_err-read-in-Model
unfolding reading_of
returns-in_err-read-in-Model c =
    let p = err_from_is_err_and c.from_residual-in_err-read-in-Model.result c.from_residual-in_err-read-in-Model.ensures.1 in
    rw (p.1, p.2, c.in-Model.is) (judged_wrong _ _ _ _ c.in_err-read-in-Model.ensures)

pub returns-in_ok-read-in-Model : goal.returns-in_ok-read-in-Model
unfolding reading_of
returns-in_ok-read-in-Model c = rw c.in-Model.is (judged_good rec.Model _ _ _ c.in_ok-read-in-Model.ensures)

pub returns-in_err-read-in-Endmdl : goal.returns-in_err-read-in-Endmdl
unfolding reading_of
returns-in_err-read-in-Endmdl c =
    let p = err_from_is_err_and c.from_residual-in_err-read-in-Endmdl.result c.from_residual-in_err-read-in-Endmdl.ensures.1 in
    rw (p.1, p.2, c.in-Endmdl.is) (judged_wrong _ _ _ _ c.in_err-read-in-Endmdl.ensures)

pub returns-in_ok-read-in-Endmdl : goal.returns-in_ok-read-in-Endmdl
unfolding reading_of
returns-in_ok-read-in-Endmdl c = rw c.in-Endmdl.is (judged_good (λ (b : Bare). rec.Endmdl) _ _ _ c.in_ok-read-in-Endmdl.ensures)

pub returns-in_err-read-in-Cryst1 : goal.returns-in_err-read-in-Cryst1
unfolding reading_of crystal_read
returns-in_err-read-in-Cryst1 c =
    let p = err_from_is_err_and c.from_residual-in_err-read-in-Cryst1.result c.from_residual-in_err-read-in-Cryst1.ensures.1 in
    rw (p.1, p.2, c.in-Cryst1.is) (judged_wrong _ _ _ _ c.in_err-read-in-Cryst1.ensures)

pub returns-in_ok-read-in-Cryst1 : goal.returns-in_ok-read-in-Cryst1
unfolding reading_of crystal_read
returns-in_ok-read-in-Cryst1 c = rw c.in-Cryst1.is (judged_good rec.Cell _ _ _ c.in_ok-read-in-Cryst1.ensures)

pub returns-in_err-read-in-Origx1 : goal.returns-in_err-read-in-Origx1
unfolding reading_of crystal_read
returns-in_err-read-in-Origx1 c =
    let p = err_from_is_err_and c.from_residual-in_err-read-in-Origx1.result c.from_residual-in_err-read-in-Origx1.ensures.1 in
    rw (p.1, p.2, c.in-Origx1.is) (judged_wrong _ _ _ _ c.in_err-read-in-Origx1.ensures)

pub returns-in_ok-read-in-Origx1 : goal.returns-in_ok-read-in-Origx1
unfolding reading_of crystal_read
returns-in_ok-read-in-Origx1 c = rw c.in-Origx1.is (judged_good (λ t. rec.Transform false axis.X t) _ _ _ c.in_ok-read-in-Origx1.ensures)

pub returns-in_err-read-in-Origx2 : goal.returns-in_err-read-in-Origx2
unfolding reading_of crystal_read
returns-in_err-read-in-Origx2 c =
    let p = err_from_is_err_and c.from_residual-in_err-read-in-Origx2.result c.from_residual-in_err-read-in-Origx2.ensures.1 in
    rw (p.1, p.2, c.in-Origx2.is) (judged_wrong _ _ _ _ c.in_err-read-in-Origx2.ensures)

pub returns-in_ok-read-in-Origx2 : goal.returns-in_ok-read-in-Origx2
unfolding reading_of crystal_read
returns-in_ok-read-in-Origx2 c = rw c.in-Origx2.is (judged_good (λ t. rec.Transform false axis.Y t) _ _ _ c.in_ok-read-in-Origx2.ensures)

pub returns-in_err-read-in-Origx3 : goal.returns-in_err-read-in-Origx3
unfolding reading_of crystal_read
returns-in_err-read-in-Origx3 c =
    let p = err_from_is_err_and c.from_residual-in_err-read-in-Origx3.result c.from_residual-in_err-read-in-Origx3.ensures.1 in
    rw (p.1, p.2, c.in-Origx3.is) (judged_wrong _ _ _ _ c.in_err-read-in-Origx3.ensures)

pub returns-in_ok-read-in-Origx3 : goal.returns-in_ok-read-in-Origx3
unfolding reading_of crystal_read
returns-in_ok-read-in-Origx3 c = rw c.in-Origx3.is (judged_good (λ t. rec.Transform false axis.Z t) _ _ _ c.in_ok-read-in-Origx3.ensures)

pub returns-in_err-read-in-Scale1 : goal.returns-in_err-read-in-Scale1
unfolding reading_of crystal_read
returns-in_err-read-in-Scale1 c =
    let p = err_from_is_err_and c.from_residual-in_err-read-in-Scale1.result c.from_residual-in_err-read-in-Scale1.ensures.1 in
    rw (p.1, p.2, c.in-Scale1.is) (judged_wrong _ _ _ _ c.in_err-read-in-Scale1.ensures)

pub returns-in_ok-read-in-Scale1 : goal.returns-in_ok-read-in-Scale1
unfolding reading_of crystal_read
returns-in_ok-read-in-Scale1 c = rw c.in-Scale1.is (judged_good (λ t. rec.Transform true axis.X t) _ _ _ c.in_ok-read-in-Scale1.ensures)

pub returns-in_err-read-in-Scale2 : goal.returns-in_err-read-in-Scale2
unfolding reading_of crystal_read
returns-in_err-read-in-Scale2 c =
    let p = err_from_is_err_and c.from_residual-in_err-read-in-Scale2.result c.from_residual-in_err-read-in-Scale2.ensures.1 in
    rw (p.1, p.2, c.in-Scale2.is) (judged_wrong _ _ _ _ c.in_err-read-in-Scale2.ensures)

pub returns-in_ok-read-in-Scale2 : goal.returns-in_ok-read-in-Scale2
unfolding reading_of crystal_read
returns-in_ok-read-in-Scale2 c = rw c.in-Scale2.is (judged_good (λ t. rec.Transform true axis.Y t) _ _ _ c.in_ok-read-in-Scale2.ensures)

pub returns-in_err-read-in-Scale3 : goal.returns-in_err-read-in-Scale3
unfolding reading_of crystal_read
returns-in_err-read-in-Scale3 c =
    let p = err_from_is_err_and c.from_residual-in_err-read-in-Scale3.result c.from_residual-in_err-read-in-Scale3.ensures.1 in
    rw (p.1, p.2, c.in-Scale3.is) (judged_wrong _ _ _ _ c.in_err-read-in-Scale3.ensures)

pub returns-in_ok-read-in-Scale3 : goal.returns-in_ok-read-in-Scale3
unfolding reading_of crystal_read
returns-in_ok-read-in-Scale3 c = rw c.in-Scale3.is (judged_good (λ t. rec.Transform true axis.Z t) _ _ _ c.in_ok-read-in-Scale3.ensures)

pub returns-in_default : goal.returns-in_default
returns-in_default c = rw (untyped c.args.k _ c.in_default.in_default-own.keys18)
