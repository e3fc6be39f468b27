-- The check by index: the state after n lines, and that the answer of the check is what the lines before the offending one leave.
-- Assumes nothing.
use Prim.Native.Nat.{ℕ, zero, suc, ◌+◌, ◌*◌, ◌≤◌, ◌<◌}
use mathlib.Core.List.{List, [], ◌∷◌, map}
use mathlib.Core.Bool.{Bool, true, false}
use mathlib.Core.Path.{◌≡◌, refl, sym, ◌∙◌, ap}
use native.Mathlib.Omega.{arith}
use native.Mathlib.Numerals.{add-one}
use borrow.Author.Tests.{eqb-true, eqb-false, eq-eqb, ne_eqb, ltb-true, ltb-false}
use lib.Dec.{eqb, ltb}
use lib.ListN.{length, drop, length-take, length-drop}
use Rattle.ascii.specs.Tests.{pick}
use Rattle.ascii.proofs.Choice.{picks}
use Rattle.pieces.specs.declared.Line.{Line}
use Rattle.pieces.specs.declared.Line.TheVariants.{Bad, Wrong, Carried, Typed}
use Rattle.pieces.specs.Pieces.{line_of}
use Rattle.rules.specs.declared.State.{State}
use Rattle.places.specs.Places.{end_place}
use Rattle.rules.specs.Rules.{next_of, start_of}
use Rattle.search.specs.declared.Span.{Span}
use Rattle.search.specs.Search.{span}
use Rattle.gate.specs.Gate.{Verdict}
use Rattle.rows.specs.Text.{cut, piece_at, row, down}
use Rattle.gate.specs.Gate.{column_of, number_in, refused_of, finish_of, check_lines, check_of}
use Rattle.serials.specs.declared.Earlier.{Earlier}
use Rattle.serials.specs.Search.{grow_of, no_earlier, earlier_of, Block, Behind}
use Rattle.rows.proofs.Cut.{cut_next, cut_done}
use Rattle.gate.proofs.Sofar.{Few, Grown, grown, sofar_start}

-- the state that the first n lines leave
unfoldable pub state_at : (ℕ → Line) → ℕ → State
state_at L zero = start_of
state_at L (suc n) = next_of (state_at L n) (L n)

-- the number of line j after the lines before it
abbrev pub number_at : (ℕ → Line) → ℕ → ℕ
number_at L j = number_in (down L j) (state_at L j) (L j)

-- the first n lines are good
abbrev pub GoodTo : (ℕ → Line) → ℕ → Type 0
GoodTo L n = (j : ℕ) → j < n → number_at L j ≡ 0

-- what is known of the state after n good lines of a text
pub record Reached (t : List ℕ) (n : ℕ) : Type 0 where
  pub within : 81 * n ≤ length t
  pub lines : (state_at (row t) n).lines ≡ n
  pub few : Few (state_at (row t) n).counts n
  pub span : Span
  pub earlier : Earlier
  pub block : Block (row t) n span (state_at (row t) n)
  pub behind : Behind (row t) n earlier

long_within : (t : List ℕ) (n : ℕ) → 81 ≤ length (piece_at t n) → 81 * suc n ≤ length t
unfolding piece_at
long_within t n h = omega (arith, simp (length-take, length-drop) at h)

reach_more : (t : List ℕ) (n : ℕ) → (R : Reached t n) → Grown t n R.span R.earlier (state_at (row t) n) (row t n) → Reached t (suc n)
unfolding state_at
reach_more t n R G =
    record {
      within = long_within t n G.long;
      lines = G.lines ∙ ap (λ (m : ℕ). m + 1) R.lines ∙ add-one n;
      few = rw (← add-one n) G.few;
      span = grow_of R.span n (row t n);
      earlier = earlier_of R.span R.earlier (row t n);
      block = rw (← add-one n) G.block;
      behind = rw (← add-one n) G.behind;
    }

pub reached : (t : List ℕ) (n : ℕ) → GoodTo (row t) n → Reached t n
unfolding state_at
reached t zero g =
    let S = sofar_start t (record { block = span 0 0; earlier = no_earlier; near = record { place = 0; serial = record { 0 = 0 } } }) start_of refl refl refl in
    record { within = omega arith; lines = S.lines; few = S.few; span = span 0 0; earlier = no_earlier; block = S.block; behind = S.behind }
reached t (suc n) g =
    let R = reached t n (λ j h. g j (omega arith)) in
    reach_more t n R (grown t n R.span R.earlier (state_at (row t) n) _ R.few R.block R.behind (row t n) refl (g n (omega arith)))

-- a line more of the rest
rest_next : (t : List ℕ) (n : ℕ) → 81 * n < length t → map line_of (cut (drop (81 * n) t)) ≡ row t n ∷ map line_of (cut (drop (81 * suc n) t))
unfolding row
rest_next t n h = ap (map line_of) (cut_next t n h) ∙ ap (λ (m : ℕ). line_of (piece_at t n) ∷ map line_of (cut (drop (81 * m) t))) (add-one n)

-- the answer of the check, unrolled over the first n lines
pub unrolled : (t : List ℕ) (n : ℕ) → GoodTo (row t) n
    → check_of t ≡ check_lines (down (row t) n) (state_at (row t) n) (map line_of (cut (drop (81 * n) t)))
unfolding state_at down check_of check_lines
unrolled t zero g = refl
unrolled t (suc n) g =
    let h : 81 * suc n ≤ length t = (reached t (suc n) g).within in
    let l : 81 * n < length t = omega arith in
    unrolled t n (λ j k. g j (omega arith))
    ∙ ap (λ (ls : List Line). check_lines (down (row t) n) (state_at (row t) n) ls) (rest_next t n l)
    ∙ rw (eq-eqb (number_at (row t) n) 0 (g n (omega arith)))

-- ---- the answer, whatever the text
pub record Answered (t : List ℕ) (v : Verdict) : Type 0 where
  pub good_to : GoodTo (row t) v.good
  pub counts : v.counts ≡ (state_at (row t) v.good).counts
  pub column : v.column ≡ column_of v.number (row t v.good)
  pub six : v.number ≡ 6 → number_at (row t) v.good ≡ 6
  pub granted : v.number ≡ 0 → (v.line ≡ 0) × (length t ≡ 81 * v.good) × ((state_at (row t) v.good).place ≡ end_place)
  pub refused : (v.number ≡ 0 → ⊥) → v.line ≡ v.good + 1

-- only 6 has a column
pub no_column : (n : ℕ) (l : Line) → (n ≡ 6 → ⊥) → column_of n l ≡ 0
no_column n (Bad m) z = refl
no_column n (Wrong k c) z = rw (ne_eqb n 6 z)
no_column n (Carried k) z = refl
no_column n (Typed r) z = refl

answered_refused : (t : List ℕ) (i n c : ℕ) → GoodTo (row t) i → (n ≡ 0 → ⊥) → c ≡ column_of n (row t i) → (n ≡ 6 → number_at (row t) i ≡ 6) → Answered t (refused_of n c (state_at (row t) i))
unfolding refused_of
answered_refused t i n c g z q k =
    let e : (state_at (row t) i).lines ≡ i = (reached t i g).lines in
    record {
      good_to = rw e g;
      counts = rw e;
      column = q ∙ rw e;
      six = rw e k;
      granted = λ y. absurd (z y);
      refused = λ _. refl;
    }

answered_finish : (t : List ℕ) (i : ℕ) → GoodTo (row t) i → length t ≤ 81 * i → Answered t (finish_of (state_at (row t) i))
unfolding finish_of
answered_finish t i g h =
    let R = reached t i g in
    let e : (state_at (row t) i).lines ≡ i = R.lines in
    let w : 81 * i ≤ length t = R.within in
    picks (Answered t) (eqb (state_at (row t) i).place end_place) _ (refused_of 12 0 (state_at (row t) i))
    (λ p.
    record {
      good_to = rw e g;
      counts = rw e;
      column = sym (no_column 0 (row t (state_at (row t) i).lines) (λ z. omega arith));
      six = λ z. absurd (omega arith);
      granted = λ _. (refl, rw e (omega arith), rw e (eqb-true _ _ p));
      refused = λ z. absurd (z refl);
    })
    (λ _. answered_refused t i 12 0 g (λ y. omega arith) (sym (no_column 12 (row t i) (λ z. omega arith))) (λ z. absurd (omega arith)))

good_more : (L : ℕ → Line) (i : ℕ) → GoodTo L i → number_at L i ≡ 0 → GoodTo L (suc i)
good_more L i g e j h = go (ltb j i) refl
  where
    go : (b : Bool) → ltb j i ≡ b → number_at L j ≡ 0
    go true u = g j (ltb-true j i u)
    go false u = let q : j ≡ i = omega (arith, ltb-false j i u) in rw q e

nil_cons : (l : Line) (ls : List Line) → ◌≡◌ {A = List Line} [] (l ∷ ls) → ⊥
nil_cons l ls e = let z : ◌≡◌ {A = ℕ} 0 1 = cc in omega arith

answered_from : (ls : List Line) (t : List ℕ) (i : ℕ) → map line_of (cut (drop (81 * i) t)) ≡ ls → GoodTo (row t) i
    → Answered t (check_lines (down (row t) i) (state_at (row t) i) ls)
unfolding check_lines state_at down
answered_from [] t i e g = answered_finish t i g (go (ltb (81 * i) (length t)) refl)
  where
    go : (b : Bool) → ltb (81 * i) (length t) ≡ b → length t ≤ 81 * i
    go true u = absurd (nil_cons _ _ (sym e ∙ rest_next t i (ltb-true _ _ u)))
    go false u = ltb-false (81 * i) (length t) u
answered_from (l ∷ ls) t i e g = go (answered_from ls t (suc i)) (ltb (81 * i) (length t)) refl
  where
    parts : 81 * i < length t → (row t i ≡ l) × (map line_of (cut (drop (81 * suc i) t)) ≡ ls)
    parts h = let q : row t i ∷ map line_of (cut (drop (81 * suc i) t)) ≡ l ∷ ls = sym (rest_next t i h) ∙ e in (cc, cc)

    turn : (map line_of (cut (drop (81 * suc i) t)) ≡ ls → GoodTo (row t) (suc i) → Answered t (check_lines (row t i ∷ down (row t) i) (next_of (state_at (row t) i) (row t i)) ls)) → (row t i ≡ l) × (map line_of (cut (drop (81 * suc i) t)) ≡ ls) → Answered t (pick (eqb (number_in (down (row t) i) (state_at (row t) i) l) 0) (check_lines (l ∷ down (row t) i) (next_of (state_at (row t) i) l) ls) (refused_of (number_in (down (row t) i) (state_at (row t) i) l) (column_of (number_in (down (row t) i) (state_at (row t) i) l) l) (state_at (row t) i)))
    turn again p =
        rw (← p.0)
        (picks (Answered t) (eqb (number_at (row t) i) 0) _ _
        (λ y. again p.1 (good_more (row t) i g (eqb-true _ _ y)))
        (λ z. answered_refused t i (number_at (row t) i) _ g (eqb-false _ _ z) refl (λ e. e)))

    go : (map line_of (cut (drop (81 * suc i) t)) ≡ ls → GoodTo (row t) (suc i) → Answered t (check_lines (row t i ∷ down (row t) i) (next_of (state_at (row t) i) (row t i)) ls)) → (b : Bool) → ltb (81 * i) (length t) ≡ b → Answered t (pick (eqb (number_in (down (row t) i) (state_at (row t) i) l) 0) (check_lines (l ∷ down (row t) i) (next_of (state_at (row t) i) l) ls) (refused_of (number_in (down (row t) i) (state_at (row t) i) l) (column_of (number_in (down (row t) i) (state_at (row t) i) l) l) (state_at (row t) i)))
    go again true u = turn again (parts (ltb-true _ _ u))
    go again false u = absurd (nil_cons _ _ (ap (map line_of) (sym (cut_done t i (ltb-false _ _ u))) ∙ e))

pub answered : (t : List ℕ) → Answered t (check_of t)
unfolding check_of state_at down
answered t = answered_from (map line_of (cut t)) t 0 refl (λ j h. absurd (omega arith))
