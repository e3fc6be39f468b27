-- CRYST1: its columns 7 to 80.
use Rattle.ascii.specs.Library.{ℕ}
use Rattle.fields.specs.Format.{Format, whole_f, whole_real_f, none_f, ◌then◌, after, held, shut}
use Rattle.names.specs.Names.{name_f, is_free}
use Rattle.cell.specs.declared.{Edges.Edges, Angles.Angles, Group.Group, Cell.Cell}

-- ---- columns 7 to 33: the edges a 7-15, b 16-24, c 25-33, each Real(9.3) above zero, in thousandths
abbrev pub edge_f : Format ℕ
edge_f = whole_real_f 9 3 1 99999999

unfoldable pub edges_columns : Format Edges
edges_columns = held (edge_f then edge_f then edge_f) (λ (a, (b, c)). record { a = a; b = b; c = c }) (λ e. (e.a, (e.b, e.c)))

abbrev pub edges_f : Format Edges
edges_f = shut 27 edges_columns

-- ---- columns 34 to 54: the angles alpha 34-40, beta 41-47, gamma 48-54, each Real(7.2) above 0 and below 180, in hundredths of a degree
abbrev pub angle_f : Format ℕ
angle_f = whole_real_f 7 2 1 17999

unfoldable pub angles_columns : Format Angles
angles_columns =
    held (angle_f then angle_f then angle_f)
    (λ (alpha, (beta, gamma)). record { alpha = alpha; beta = beta; gamma = gamma }) (λ e. (e.alpha, (e.beta, e.gamma)))

abbrev pub angles_f : Format Angles
angles_f = shut 21 angles_columns

-- ---- columns 56 to 66: the space group, free
unfoldable pub group_columns : Format Group
group_columns =
    held (name_f 4 (is_free 4) then name_f 4 (is_free 4) then name_f 3 (is_free 3))
    (λ (a, (b, c)). record { a = a; b = b; c = c }) (λ g. (g.a, (g.b, g.c)))

abbrev pub group_f : Format Group
group_f = shut 11 group_columns

-- ---- columns 7 to 80: edges, angles, space group, Z 67-70
unfoldable pub cell_columns : Format Cell
cell_columns =
    held (edges_f then angles_f then after 1 (group_f then whole_f 4 1 9999 then after 10 none_f))
    (λ (edges, (angles, (group, (z, none)))). record { edges = edges; angles = angles; group = group; z = z })
    (λ c. (c.edges, (c.angles, (c.group, (c.z, tt)))))

abbrev pub cell_f : Format Cell
cell_f = shut 74 cell_columns
