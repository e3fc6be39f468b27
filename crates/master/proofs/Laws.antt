-- MASTER is lawful. Assumes nothing.
use mathlib.Core.Path.{refl}
use Prim.Native.Nat.{ℕ}
use Rattle.fields.proofs.Formats.{Lawful, whole_lawful, none_lawful, then_lawful, after_lawful, held_lawful}
use Rattle.fields.proofs.Choices.{fixed_lawful}
use Rattle.master.specs.Masters.{count_f, nil_f, notes_f, notes_columns, shape_f, shape_columns, atoms_f, atoms_columns, master_f, master_columns}
use Rattle.master.specs.declared.Notes.{Notes}
use Rattle.master.specs.declared.Shape.{Shape}
use Rattle.master.specs.declared.Atoms.{Atoms}
use Rattle.master.specs.declared.Tally.{Tally}

count : {begin : ℕ} → Lawful count_f begin
count = whole_lawful 5 0 99999 tt

nil : {begin : ℕ} → Lawful nil_f begin
nil = fixed_lawful 5 0 tt

abbrev to_notes : (ℕ × (Unit {0} × (ℕ × ℕ))) → Notes
to_notes = λ (remark, (nil, (het, helix))). record { remark = remark; het = het; helix = helix }

abbrev from_notes : Notes → (ℕ × (Unit {0} × (ℕ × ℕ)))
from_notes n = (n.remark, (tt, (n.het, n.helix)))

notes_lawful : {begin : ℕ} → Lawful notes_f begin
unfolding notes_columns
notes_lawful = held_lawful to_notes from_notes (λ n. refl) (λ f. refl) (then_lawful count (then_lawful nil (then_lawful count count)))

abbrev to_shape : (ℕ × (Unit {0} × (Unit {0} × ℕ))) → Shape
to_shape = λ (sheet, (turns, (sites, xform))). record { sheet = sheet; xform = xform }

abbrev from_shape : Shape → (ℕ × (Unit {0} × (Unit {0} × ℕ)))
from_shape s = (s.sheet, (tt, (tt, s.xform)))

shape_lawful : {begin : ℕ} → Lawful shape_f begin
unfolding shape_columns
shape_lawful = held_lawful to_shape from_shape (λ s. refl) (λ f. refl) (then_lawful count (then_lawful nil (then_lawful nil count)))

abbrev to_atoms : (ℕ × (ℕ × (ℕ × ℕ))) → Atoms
to_atoms = λ (coord, (ter, (conect, seq))). record { coord = coord; ter = ter; conect = conect; seq = seq }

abbrev from_atoms : Atoms → (ℕ × (ℕ × (ℕ × ℕ)))
from_atoms a = (a.coord, (a.ter, (a.conect, a.seq)))

atoms_lawful : {begin : ℕ} → Lawful atoms_f begin
unfolding atoms_columns
atoms_lawful = held_lawful to_atoms from_atoms (λ a. refl) (λ f. refl) (then_lawful count (then_lawful count (then_lawful count count)))

abbrev to_tally : (Notes × (Shape × (Atoms × Unit {0}))) → Tally
to_tally = λ (notes, (shape, (atoms, none))).
    record {
      remark = notes.remark;
      het = notes.het;
      helix = notes.helix;
      sheet = shape.sheet;
      xform = shape.xform;
      coord = atoms.coord;
      ter = atoms.ter;
      conect = atoms.conect;
      seq = atoms.seq;
    }

abbrev from_tally : Tally → (Notes × (Shape × (Atoms × Unit {0})))
from_tally t = (
  record { remark = t.remark; het = t.het; helix = t.helix },
  (record { sheet = t.sheet; xform = t.xform }, (record { coord = t.coord; ter = t.ter; conect = t.conect; seq = t.seq }, tt)),
)

pub master_lawful : Lawful master_f 6
unfolding master_columns
master_lawful =
    held_lawful to_tally from_tally (λ t. refl) (λ f. refl)
    (after_lawful 4 (then_lawful notes_lawful (then_lawful shape_lawful (then_lawful atoms_lawful (after_lawful 10 none_lawful)))))
