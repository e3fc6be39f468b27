-- Where the coordinate lines of a text stand, and what a search among them says. (Nothing here is part of the answer.)
use Rattle.std.specs.Prelude.{◌*◌, ◌≤◌, ◌<◌, ◌⊎◌, ◌≡◌, Option, Some, None}
use Rattle.ascii.specs.Library.{ℕ, zero, suc, List, Bool, true, false, not, length, ltb, both, pick}
use Rattle.pieces.specs.declared.{Line.Line}
use Rattle.facets.specs.declared.{Spot.Spot, Spot.TheVariants.Site, Spot.TheVariants.Close}
use Rattle.facets.specs.Facets.{spot_in, is_coord, is_fence}
use Rattle.rules.specs.declared.{State.State}
use Rattle.places.specs.Places.{coordinate_place, end_place}
use Rattle.search.specs.declared.{Span.Span}
use Rattle.search.specs.Search.{span, including}
use Rattle.rows.specs.Text.{row}
use Rattle.serials.specs.declared.{Earlier.Earlier}
use Rattle.serials.specs.Known.{is_site}

-- the serial of an ATOM, HETATM or TER line, 0 where it is none
abbrev pub spot_serial : Option Spot → ℕ
spot_serial (Some (Site het a)) = a.identity.serial.0
spot_serial (Some (Close t)) = t.serial.0
spot_serial None = 0

abbrev pub serial_of : Line → ℕ
serial_of l = spot_serial (spot_in l)

-- the block of the coordinate lines, with line n taken in; MODEL and ENDMDL begin a new one
abbrev pub grow_of : Span → ℕ → Line → Span
grow_of b n l = pick (is_fence l) (span 0 0) (pick (is_coord l) (including b n) b)

-- a block with a line
abbrev pub has_line : Span → Bool
has_line b = ltb b.lo b.hi

-- the blocks before the last one: the first that has a line, and where the last of them ends
abbrev pub shut_of : Span → Earlier → Earlier
shut_of b e = record { first = pick (both (has_line b) (not (has_line e.first))) b e.first; end = pick (has_line b) b.hi e.end }

-- no model is shut
abbrev pub no_earlier : Earlier
no_earlier = record { first = span 0 0; end = 0 }

abbrev pub earlier_of : Span → Earlier → Line → Earlier
earlier_of b e l = pick (is_fence l) (shut_of b e) e

-- where the lines since the last MODEL or ENDMDL begin, among the first n
unfoldable pub base_of : (ℕ → Line) → ℕ → ℕ
base_of L zero = 0
base_of L (suc n) = pick (is_fence (L n)) (suc n) (base_of L n)

-- a place before the coordinate lines; those inside a trio have numbers above that of END
abbrev pub Before : ℕ → Type 0
Before p = (p < coordinate_place) ⊎ (end_place < p)

-- the coordinate lines since the last MODEL or ENDMDL among the first n are those from lo to hi, with rising serials, none above the last
pub record Block (L : ℕ → Line) (n : ℕ) (b : Span) (s : State) : Type 0 where
  pub lo_le : b.lo ≤ b.hi
  pub hi_le : b.hi ≤ n
  pub coord : (j : ℕ) → b.lo ≤ j → j < b.hi → is_coord (L j) ≡ true
  pub rise : (j k : ℕ) → b.lo ≤ j → j < k → k < b.hi → serial_of (L j) < serial_of (L k)
  pub based : b.lo < b.hi → base_of L n ≤ b.lo
  pub low : (j : ℕ) → base_of L n ≤ j → j < b.lo → is_coord (L j) ≡ false
  pub top : (j : ℕ) → b.lo ≤ j → j < b.hi → serial_of (L j) ≤ s.last.0
  pub high : (j : ℕ) → base_of L n ≤ j → b.hi ≤ j → j < n → is_coord (L j) ≡ false
  pub early : Before s.place → b.lo ≡ b.hi
  pub open_end : b.lo < b.hi → s.place ≡ coordinate_place → b.hi ≡ n

-- the coordinate lines before the last MODEL or ENDMDL among the first n: none before the first block, whose serials rise, and none from the end on
pub record Behind (L : ℕ → Line) (n : ℕ) (e : Earlier) : Type 0 where
  pub lo_le : e.first.lo ≤ e.first.hi
  pub hi_end : e.first.hi ≤ e.end
  pub end_base : e.end ≤ base_of L n
  pub empty : e.first.hi ≤ e.first.lo → e.end ≡ 0
  pub coord : (j : ℕ) → e.first.lo ≤ j → j < e.first.hi → is_coord (L j) ≡ true
  pub rise : (j k : ℕ) → e.first.lo ≤ j → j < k → k < e.first.hi → serial_of (L j) < serial_of (L k)
  pub low : (j : ℕ) → j < e.first.lo → is_coord (L j) ≡ false
  pub high : (j : ℕ) → e.end ≤ j → j < base_of L n → is_coord (L j) ≡ false

-- lines of a text that can be searched by halving
pub record Rising (t : List ℕ) (lo hi : ℕ) : Type 0 where
  pub lo_le : lo ≤ hi
  pub inside : 81 * hi ≤ length t
  pub coord : (j : ℕ) → lo ≤ j → j < hi → is_coord (row t j) ≡ true
  pub rise : (j k : ℕ) → lo ≤ j → j < k → k < hi → serial_of (row t j) < serial_of (row t k)

-- the blocks before the last one lie in the text, and the first of them can be searched
abbrev pub Reached : List ℕ → Earlier → Type 0
Reached t e = Rising t e.first.lo e.first.hi × (e.first.hi ≤ e.end) × (81 * e.end ≤ length t)

-- x is the serial of an ATOM or HETATM line from lo to hi, or of none of them
abbrev pub Stands : (ℕ → Line) → ℕ → ℕ → ℕ → Bool → Type 0
Stands L lo hi x true = (j : ℕ) × (lo ≤ j) × (j < hi) × (is_site x (L j) ≡ true)
Stands L lo hi x false = (j : ℕ) → lo ≤ j → j < hi → is_site x (L j) ≡ false

-- x is the serial of the ATOM or HETATM line that was found from lo to hi, or of none of them
abbrev pub Finds : (ℕ → Line) → ℕ → ℕ → ℕ → Option ℕ → Type 0
Finds L lo hi x (Some j) = (lo ≤ j) × (j < hi) × (is_site x (L j) ≡ true)
Finds L lo hi x None = (j : ℕ) → lo ≤ j → j < hi → is_site x (L j) ≡ false
