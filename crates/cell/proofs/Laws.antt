-- CRYST1 is lawful. Assumes nothing.
use mathlib.Core.Path.{refl}
use mathlib.Core.List.{List}
use Prim.Native.Nat.{ℕ}
use Rattle.fields.proofs.Formats.{Lawful, whole_lawful, whole_real_lawful, none_lawful, then_lawful, after_lawful, held_lawful}
use Rattle.names.specs.Names.{is_free}
use Rattle.names.proofs.Shapes.{name_lawful}
use Rattle.names.proofs.Classes.{free_fine}
use Rattle.cell.specs.declared.Edges.{Edges}
use Rattle.cell.specs.declared.Angles.{Angles}
use Rattle.cell.specs.declared.Group.{Group}
use Rattle.cell.specs.declared.Cell.{Cell}
use Rattle.cell.specs.Cells.{edges_f, edges_columns, angles_f, angles_columns, group_f, group_columns, cell_f, cell_columns}

abbrev to_edges : (ℕ × (ℕ × ℕ)) → Edges
to_edges = λ (a, (b, c)). record { a = a; b = b; c = c }

abbrev from_edges : Edges → (ℕ × (ℕ × ℕ))
from_edges e = (e.a, (e.b, e.c))

edges_lawful : {begin : ℕ} → Lawful edges_f begin
unfolding edges_columns
edges_lawful =
    held_lawful to_edges from_edges (λ e. refl) (λ f. refl)
    (then_lawful (whole_real_lawful 9 3 1 99999999 tt) (then_lawful (whole_real_lawful 9 3 1 99999999 tt) (whole_real_lawful 9 3 1 99999999 tt)))

abbrev to_angles : (ℕ × (ℕ × ℕ)) → Angles
to_angles = λ (alpha, (beta, gamma)). record { alpha = alpha; beta = beta; gamma = gamma }

abbrev from_angles : Angles → (ℕ × (ℕ × ℕ))
from_angles e = (e.alpha, (e.beta, e.gamma))

angles_lawful : {begin : ℕ} → Lawful angles_f begin
unfolding angles_columns
angles_lawful =
    held_lawful to_angles from_angles (λ e. refl) (λ f. refl)
    (then_lawful (whole_real_lawful 7 2 1 17999 tt) (then_lawful (whole_real_lawful 7 2 1 17999 tt) (whole_real_lawful 7 2 1 17999 tt)))

abbrev to_group : (List ℕ × (List ℕ × List ℕ)) → Group
to_group = λ (a, (b, c)). record { a = a; b = b; c = c }

abbrev from_group : Group → (List ℕ × (List ℕ × List ℕ))
from_group g = (g.a, (g.b, g.c))

group_lawful : {begin : ℕ} → Lawful group_f begin
unfolding group_columns
group_lawful =
    held_lawful to_group from_group (λ g. refl) (λ f. refl)
    (then_lawful (name_lawful 4 (is_free 4) (free_fine 4)) (then_lawful (name_lawful 4 (is_free 4) (free_fine 4)) (name_lawful 3 (is_free 3) (free_fine 3))))

abbrev to_cell : (Edges × (Angles × (Group × (ℕ × Unit {0})))) → Cell
to_cell = λ (edges, (angles, (group, (z, none)))). record { edges = edges; angles = angles; group = group; z = z }

abbrev from_cell : Cell → (Edges × (Angles × (Group × (ℕ × Unit {0}))))
from_cell c = (c.edges, (c.angles, (c.group, (c.z, tt))))

pub cell_lawful : Lawful cell_f 6
unfolding cell_columns
cell_lawful =
    held_lawful to_cell from_cell (λ c. refl) (λ f. refl)
    (then_lawful edges_lawful
    (then_lawful angles_lawful (after_lawful 1 (then_lawful group_lawful (then_lawful (whole_lawful 4 1 9999 tt) (after_lawful 10 none_lawful))))))
