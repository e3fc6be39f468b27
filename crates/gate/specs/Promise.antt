-- What follows of any text from the answer of the check, in plain words: the statement. It is proved in proofs/.
use Rattle.std.specs.Prelude.{◌+◌, ◌*◌, ◌-◌, ◌≤◌, ◌<◌, ◌≡◌, ◌⊎◌, Option, Some, None}
use Rattle.ascii.specs.Library.{ℕ, zero, suc, List, Bool, true, false, length, take, eqb, pick, either}
use Rattle.coordinate.specs.declared.{Identity.Identity, Atom.Atom}
use Rattle.conect.specs.declared.{Conect.Conect}
use Rattle.master.specs.declared.{Tally.Tally}
use Rattle.pieces.specs.declared.{Line.TheVariants.Typed}
use Rattle.places.specs.declared.{Counts.Counts}
use Rattle.places.specs.Counts.{count_at, same_counts}
use Rattle.facets.specs.declared.{Fence.Fence, Fence.TheVariants.Opens, Fence.TheVariants.Shuts}
use Rattle.facets.specs.Facets.{line_kind, fence_in, is_coord, is_fence}
use Rattle.line.specs.Lines.{read_line, answer_column}
use Rattle.rows.specs.Text.{piece_at, row}
use Rattle.serials.specs.Known.{is_site}
use Rattle.serials.specs.Search.{serial_of}
use Rattle.gate.specs.Gate.{check_of}
use Rattle.line.specs.declared.Record.TheVariants as rec

-- x is the serial of an ATOM or HETATM line before line i
abbrev pub AtomBefore : List ℕ → ℕ → ℕ → Type 0
AtomBefore t i x = (j : ℕ) × (j < i) × (is_site x (row t j) ≡ true)

-- a partner that is there is
abbrev pub PartnerBefore : List ℕ → ℕ → ℕ → Type 0
PartnerBefore t i x = (x ≡ 0) ⊎ AtomBefore t i x

-- each number on a CONECT line, which is line i, is the serial of such a line
pub record Names (t : List ℕ) (i : ℕ) (bond : Conect) : Type 0 where
  pub serial : AtomBefore t i bond.serial.0
  pub a : PartnerBefore t i bond.a.0
  pub b : PartnerBefore t i bond.b.0
  pub c : PartnerBefore t i bond.c.0
  pub d : PartnerBefore t i bond.d.0

-- two atoms share the six fields
pub record SixFields (a b : Identity) : Type 0 where
  pub residue_name : a.residue.name ≡ b.residue.name
  pub chain : a.residue.chain ≡ b.residue.chain
  pub residue_number : a.residue.number ≡ b.residue.number
  pub insertion : a.residue.insertion ≡ b.residue.insertion
  pub name : a.name ≡ b.name
  pub alternate : a.alternate ≡ b.alternate

-- no MODEL or ENDMDL stands between line j and line k
abbrev pub OneModel : List ℕ → ℕ → ℕ → Type 0
OneModel t j k = (i : ℕ) → j < i → i < k → is_fence (row t i) ≡ false

-- an ENDMDL line
abbrev pub is_shut : Option Fence → Bool
is_shut (Some (Opens n)) = false
is_shut (Some Shuts) = true
is_shut None = false

-- there is one among the first n lines
unfoldable pub past_at : List ℕ → ℕ → Bool
past_at t zero = false
past_at t (suc n) = either (is_shut (fence_in (row t n))) (past_at t n)

-- how many of the first n lines are MODEL lines, and whether these leave a model open
abbrev pub is_open : Option Fence → Bool
is_open (Some (Opens n)) = true
is_open (Some Shuts) = false
is_open None = false

unfoldable pub models_to : List ℕ → ℕ → ℕ
models_to t zero = 0
models_to t (suc n) = pick (is_open (fence_in (row t n))) (models_to t n + 1) (models_to t n)

abbrev pub open_after : Bool → Option Fence → Bool
open_after was (Some (Opens n)) = true
open_after was (Some Shuts) = false
open_after was None = was

unfoldable pub open_at : List ℕ → ℕ → Bool
open_at t zero = false
open_at t (suc n) = open_after (open_at t n) (fence_in (row t n))

-- how many of the first n lines are counted in `which` of the nine counts: of coordinates and TER those of the first model
unfoldable pub lines_of : ℕ → List ℕ → ℕ → ℕ
lines_of which t zero = 0
lines_of which t (suc n) = pick (eqb (count_at (past_at t n) (line_kind (row t n))) which) (lines_of which t n + 1) (lines_of which t n)

-- the nine numbers of such lines among the first n
abbrev pub counts_to : List ℕ → ℕ → Counts
counts_to t n =
    record {
      remark = lines_of 1 t n;
      het = lines_of 2 t n;
      helix = lines_of 3 t n;
      sheet = lines_of 4 t n;
      xform = lines_of 5 t n;
      coord = lines_of 6 t n;
      ter = lines_of 7 t n;
      conect = lines_of 8 t n;
      seq = lines_of 9 t n;
    }

pub record Consequences (t : List ℕ) : Type 0 where
  -- among the good lines, of one model, serials rise over ATOM, HETATM and TER
  pub serials_rise : (j k : ℕ) → j < k → k < (check_of t).good → OneModel t j k → is_coord (row t j) ≡ true → is_coord (row t k) ≡ true
      → serial_of (row t j) < serial_of (row t k)
  -- no two ATOM or HETATM lines among the good ones, of one model, share residue name, chain, residue number, insertion code, atom name and alternate letter
  pub atoms_differ : (j k : ℕ) (x y : Bool) (a b : Atom) → j < k → k < (check_of t).good → OneModel t j k → row t j ≡ Typed (rec.Coordinate x a)
      → row t k ≡ Typed (rec.Coordinate y b) → SixFields b.identity a.identity → ⊥
  -- models are numbered 1, 2, 3, ..
  pub models_number : (i n : ℕ) → i < (check_of t).good → fence_in (row t i) ≡ Some (Opens n) → n ≡ models_to t i + 1
  -- there is no MODEL line among the good ones, or all their ATOM, HETATM and TER lines stand between a MODEL and its ENDMDL
  pub models_hold : (models_to t (check_of t).good ≡ 0) ⊎ ((i : ℕ) → i < (check_of t).good → is_coord (row t i) ≡ true → open_at t i ≡ true)
  -- every number on a good CONECT line is the serial of an ATOM or HETATM line before it, in whichever model
  pub conects_name : (i : ℕ) (c : Conect) → i < (check_of t).good → row t i ≡ Typed (rec.Conect c) → Names t i c
  -- the numbers of a good MASTER line are the numbers of such lines before it
  pub masters_count : (i : ℕ) (m : Tally) → i < (check_of t).good → row t i ≡ Typed (rec.Master m) → same_counts m (counts_to t i) ≡ true
  -- the nine counts of the answer are the numbers of such lines among the good ones
  pub counts_true : (check_of t).counts ≡ counts_to t (check_of t).good
  -- a granted text is its good lines, and the last of them is END
  pub ends : (check_of t).number ≡ 0
      → (length t ≡ 81 * (check_of t).good) × (0 < (check_of t).good) × (row t ((check_of t).good - 1) ≡ Typed rec.End)
  -- any first n of the good lines, by themselves, have no offence: they are granted, or over before END
  pub prefixes : (n : ℕ) → n ≤ (check_of t).good
      → ((check_of (take (81 * n) t)).good ≡ n) × (((check_of (take (81 * n) t)).number ≡ 0) ⊎ ((check_of (take (81 * n) t)).number ≡ 12))
  -- at 6 the column is what the offending line is answered where it is read by itself, and not 0; at any other number it is 0
  pub column_read : (check_of t).number ≡ 6
      → ((check_of t).column ≡ answer_column (read_line (take 80 (piece_at t (check_of t).good)))) × ((check_of t).column ≡ 0 → ⊥)
  pub column_none : ((check_of t).number ≡ 6 → ⊥) → (check_of t).column ≡ 0
  -- a refused text offends in the line after its good ones
  pub offends : ((check_of t).number ≡ 0 → ⊥) → (check_of t).line ≡ (check_of t).good + 1
