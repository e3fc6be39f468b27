-- The loop of the gate: what holds after i good lines, and that it holds again after one more.
-- Assumes nothing.
use Prim.Native.Nat.{ℕ, ◌+◌, ◌*◌, ◌≤◌, ◌<◌}
use mathlib.Core.List.{List, ◌∷◌, map}
use mathlib.Core.Bool.{Bool, true, false, true≢false}
use mathlib.Core.Path.{◌≡◌, refl, sym, ◌∙◌, ap, subst}
use native.Mathlib.Omega.{arith}
use native.Mathlib.Numerals.{add-one}
use borrow.Author.Tests.{eq-eqb, ne_eqb, ltb-true, ltb-false, lt-ltb}
use lib.Dec.{eqb, ltb}
use lib.ListN.{length, take, drop, length-take, length-drop}
use Rattle.ascii.proofs.Choice.{picks}
use Rattle.pieces.specs.declared.Line.{Line}
use Rattle.pieces.specs.declared.Line.TheVariants.{Bad, Wrong, Carried, Typed}
use Rattle.pieces.specs.Pieces.{line_of}
use Rattle.places.specs.declared.Counts.{Counts}
use Rattle.rules.specs.declared.State.{State}
use Rattle.places.specs.Counts.{one_more, raised}
use Rattle.rules.specs.Rules.{judge_of, next_of, carried_next, typed_next, start_of}
use Rattle.rules.proofs.Laws.{judge_typed, judge_carried, judge_bad, judge_wrong}
use Rattle.rules.specs.declared.Looked.{Looked}
use Rattle.search.specs.declared.Span.{Span}
use Rattle.search.specs.Search.{span}
use Rattle.facets.specs.Facets.{is_coord, is_fence}
use Rattle.gate.specs.Gate.{Verdict}
use Rattle.rows.specs.Text.{cut, piece_at, row, down}
use Rattle.gate.specs.Gate.{column_of, look_of, number_in, check_lines, check_of, refused_of, finish_of}
use Rattle.serials.specs.declared.Earlier.{Earlier}
use Rattle.serials.specs.declared.Past.{Past}
use Rattle.serials.specs.Search.{grow_of, no_earlier, earlier_of, base_of, Block, Behind, Rising, Reached}
use Rattle.trail.specs.declared.Watch.{Watch}
use Rattle.trail.specs.Trail.{Watched}
use Rattle.rows.proofs.Cut.{cut_next, cut_done}
use Rattle.serials.proofs.Rows.{carried_away, piece_long}
use Rattle.serials.proofs.Block.{base_le, grow_carried, grow_typed}
use Rattle.serials.proofs.Models.{coord_off, behind_start, behind_next}

-- ---- no count is above the number of lines
pub record Few (c : Counts) (i : ℕ) : Type 0 where
  pub remark : c.remark ≤ i
  pub het : c.het ≤ i
  pub helix : c.helix ≤ i
  pub sheet : c.sheet ≤ i
  pub xform : c.xform ≤ i
  pub coord : c.coord ≤ i
  pub ter : c.ter ≤ i
  pub conect : c.conect ≤ i
  pub seq : c.seq ≤ i

one_few : (w n x i : ℕ) → x ≤ i → one_more w n x ≤ i + 1
one_few w n x i h = picks (λ (y : ℕ). y ≤ i + 1) (eqb w n) (x + 1) x (λ _. omega arith) (λ _. omega arith)

few_next : (c : Counts) (w i : ℕ) → Few c i → Few (raised c w) (i + 1)
unfolding raised
few_next c w i f =
    record {
      remark = one_few w 1 c.remark i f.remark;
      het = one_few w 2 c.het i f.het;
      helix = one_few w 3 c.helix i f.helix;
      sheet = one_few w 4 c.sheet i f.sheet;
      xform = one_few w 5 c.xform i f.xform;
      coord = one_few w 6 c.coord i f.coord;
      ter = one_few w 7 c.ter i f.ter;
      conect = one_few w 8 c.conect i f.conect;
      seq = one_few w 9 c.seq i f.seq;
    }

-- ---- after i good lines
pub record Sofar (t : List ℕ) (i : ℕ) (p : Past) (s : State) : Type 0 where
  pub within : 81 * i ≤ length t
  pub lines : s.lines ≡ i
  pub few : Few s.counts i
  pub block : Block (row t) i p.block s
  pub behind : Behind (row t) i p.earlier
  pub rest : check_of t ≡ check_lines (down (row t) i) s (map line_of (cut (drop (81 * i) t)))

block_start : (L : ℕ → Line) → Block L 0 (span 0 0) start_of
unfolding start_of base_of
block_start L =
    record {
      lo_le = omega arith;
      hi_le = omega arith;
      coord = λ j h k. absurd (omega arith);
      rise = λ j m h g k. absurd (omega arith);
      based = λ h. absurd (omega arith);
      low = λ j x h. absurd (omega arith);
      top = λ j h k. absurd (omega arith);
      high = λ j x h k. absurd (omega arith);
      early = λ h. refl;
      open_end = λ h g. absurd (omega arith);
    }

few_start : Few start_of.counts 0
unfolding start_of
few_start = record { remark = omega arith; het = omega arith; helix = omega arith; sheet = omega arith; xform = omega arith; coord = omega arith; ter = omega arith; conect = omega arith; seq = omega arith }

pub sofar_start : (t : List ℕ) (p : Past) (s : State) → s ≡ start_of → p.block ≡ span 0 0 → p.earlier ≡ no_earlier → Sofar t 0 p s
unfolding start_of check_of down
sofar_start t p s es eb ee =
    record {
      within = omega arith;
      lines = rw es;
      few = rw es few_start;
      block = rw (es, eb) (block_start (row t));
      behind = rw ee (behind_start (row t));
      rest = rw es;
    }

-- the block of the lines so far is one that can be searched
pub sofar_rising : (t : List ℕ) (i : ℕ) (p : Past) (s : State) → Sofar t i p s → Rising t p.block.lo p.block.hi
sofar_rising t i p s S =
    record {
      lo_le = S.block.lo_le;
      inside = omega (arith, S.block.hi_le, S.within);
      coord = S.block.coord;
      rise = S.block.rise;
    }

-- and so are those before it
pub sofar_reached : (t : List ℕ) (i : ℕ) (p : Past) (s : State) → Sofar t i p s → Reached t p.earlier
sofar_reached t i p s S =
    let E = S.behind in
    let far : 81 * p.earlier.end ≤ length t = omega (arith, E.end_base, base_le (row t) i, S.within) in
    (record { lo_le = E.lo_le; inside = omega (arith, E.hi_end); coord = E.coord; rise = E.rise }, E.hi_end, far)

-- the rest begins with line i
rest_step : (t : List ℕ) (i : ℕ) (p : Past) (s : State) → Sofar t i p s → 81 * i < length t
    → check_of t ≡ check_lines (down (row t) i) s (row t i ∷ map line_of (cut (drop (81 * (i + 1)) t)))
unfolding row
rest_step t i p s S h = S.rest ∙ ap (λ (ls : List (List ℕ)). check_lines (down (row t) i) s (map line_of ls)) (cut_next t i h)

sofar_refused : (t : List ℕ) (i : ℕ) (p : Past) (s : State) → Sofar t i p s → 81 * i < length t
    → (number_in (down (row t) i) s (row t i) ≡ 0 → ⊥) → check_of t ≡ refused_of (number_in (down (row t) i) s (row t i)) (column_of (number_in (down (row t) i) s (row t i)) (row t i)) s
unfolding check_lines
sofar_refused t i p s S h j = rest_step t i p s S h ∙ rw (ne_eqb (number_in (down (row t) i) s (row t i)) 0 j)

-- ---- one good line more: the parts of the state
pub record Grown (t : List ℕ) (i : ℕ) (b : Span) (e : Earlier) (s : State) (l : Line) : Type 0 where
  pub long : 81 ≤ length (piece_at t i)
  pub lines : (next_of s l).lines ≡ s.lines + 1
  pub few : Few (next_of s l).counts (i + 1)
  pub block : Block (row t) (i + 1) (grow_of b i l) (next_of s l)
  pub behind : Behind (row t) (i + 1) (earlier_of b e l)

-- what a good line leaves of the models that are shut
behind_line : (t : List ℕ) (i : ℕ) (b : Span) (v : Earlier) (s : State) → Block (row t) i b s → Behind (row t) i v → (l : Line) → row t i ≡ l → Behind (row t) (i + 1) (earlier_of b v l)
behind_line t i b v s B E l e = subst (λ (x : Line). Behind (row t) (i + 1) (earlier_of b v x)) e (behind_next (row t) i b s v B E)

pub grown : (t : List ℕ) (i : ℕ) (b : Span) (v : Earlier) (s : State) (look : Looked) → Few s.counts i → Block (row t) i b s → Behind (row t) i v
    → (l : Line) → row t i ≡ l → judge_of look s l ≡ 0 → Grown t i b v s l
unfolding next_of carried_next typed_next judge_of row
grown t i b v s look f B E (Bad n) e j = absurd (judge_bad look s n j)
grown t i b v s look f B E (Wrong k c) e j = absurd (judge_wrong look s k c j)
grown t i b v s look f B E (Carried k) e j =
    record {
      long = piece_long (piece_at t i) (λ q. let z : ◌≡◌ {A = ℕ} 0 1 = cc in omega arith);
      lines = refl;
      few = few_next s.counts _ i f;
      block = grow_carried (row t) i b s k B (ap is_coord e) (ap is_fence e) (judge_carried look s k j).0 (carried_away t i k e);
      behind = behind_line t i b v s B E (Carried k) e;
    }
grown t i b v s look f B E (Typed r) e j =
    record {
      long = piece_long (piece_at t i) (λ q. let z : ◌≡◌ {A = ℕ} 0 1 = cc in omega arith);
      lines = refl;
      few = few_next s.counts _ i f;
      block = grow_typed (row t) i b s r look B e (judge_typed look s r j);
      behind = behind_line t i b v s B E (Typed r) e;
    }

-- what is remembered once line l was good
pub record After (p : Past) (i : ℕ) (l : Line) (q : Past) : Type 0 where
  pub block : q.block ≡ grow_of p.block i l
  pub earlier : q.earlier ≡ earlier_of p.block p.earlier l

sofar_next : (t : List ℕ) (i : ℕ) (p q : Past) (s : State) → Sofar t i p s → 81 * i < length t
    → number_in (down (row t) i) s (row t i) ≡ 0 → After p i (row t i) q → Sofar t (i + 1) q (next_of s (row t i))
unfolding check_lines down piece_at
sofar_next t i p q s S h j A =
    let G = grown t i p.block p.earlier s (look_of (down (row t) i) (row t i)) S.few S.block S.behind (row t i) refl j in
    let w : 81 ≤ length (take 81 (drop (81 * i) t)) = G.long in
    record {
      within = omega (arith, simp (length-take, length-drop) at w);
      lines = G.lines ∙ ap (λ (n : ℕ). n + 1) S.lines;
      few = G.few;
      block = rw A.block G.block;
      behind = rw A.earlier G.behind;
      rest = rest_step t i p s S h ∙ rw (eq-eqb (number_in (down (row t) i) s (row t i)) 0 j, add-one i);
    }

pub sofar_done : (t : List ℕ) (i : ℕ) (p : Past) (s : State) (r : Verdict) → Sofar t i p s → length t ≤ 81 * i → r ≡ finish_of s → r ≡ check_of t
unfolding check_lines
sofar_done t i p s r S h e = e ∙ sym (S.rest ∙ rw (cut_done t i h))

-- where a coordinate line comes after others, these reach up to it
pub joined : (t : List ℕ) (i : ℕ) (b : Span) (s u : State) (l : Line) → l ≡ row t i → is_coord l ≡ true → Block (row t) i b s → Block (row t) (i + 1) (grow_of b i l) u
    → b.lo < b.hi → b.hi ≡ i
joined t i b s u l el c B G h = go (ltb b.hi i) refl
  where
    lo : (grow_of b i l).lo ≡ b.lo
    lo = rw (coord_off l c, c, lt-ltb b.lo b.hi h)

    hi : (grow_of b i l).hi ≡ i + 1
    hi = rw (coord_off l c, c)

    go : (x : Bool) → ltb b.hi i ≡ x → b.hi ≡ i
    go true e =
        let g : b.hi < i = ltb-true _ _ e in
        let p : is_coord (row t b.hi) ≡ true = G.coord b.hi (omega (arith, lo)) (omega (arith, hi)) in
        absurd (true≢false (sym p ∙ B.high b.hi (omega (arith, B.based h)) (omega arith) g))
    go false e = let g : i ≤ b.hi = ltb-false _ _ e in omega (arith, B.hi_le)

-- the number that is judged after a look back
pub judged_number : (seen : List Line) (s : State) (l : Line) (k w : Bool) (j : ℕ) → k ≡ (look_of seen l).known → w ≡ (look_of seen l).twin
    → j ≡ judge_of (record { known = k; twin = w }) s l → j ≡ number_in seen s l
judged_number seen s l k w j e f g = rw (e, f) at g

pub watched_on : (t : List ℕ) (b c : Span) (w : Watch) → b ≡ c → Watched t c w → Watched t b w
watched_on t b c w e h = subst (λ (x : Span). Watched t x w) (sym e) h

-- ---- a turn, as the code has it: l is the line, j its number of refusal
module _ (t : List ℕ) (i : ℕ) (p : Past) (s : State) (S : Sofar t i p s) (h : 81 * i < length t) (l : Line) (j : ℕ)
    (el : l ≡ row t i) (ej : j ≡ number_in (down (row t) i) s l) where
  turn_number : j ≡ number_in (down (row t) i) s (row t i)
  turn_number = rw el at ej

  pub turn_refused : (j ≡ 0 → ⊥) → (c : ℕ) → c ≡ column_of j l → refused_of j c s ≡ check_of t
  turn_refused n c ec = rw (ec, el, turn_number) (sym (sofar_refused t i p s S h (λ e. n (turn_number ∙ e))))

  pub turn_next : j ≡ 0 → (q : Past) → After p i l q → (u : State) → u ≡ next_of s l → Sofar t (i + 1) q u
  turn_next e q A u eu =
      let B : After p i (row t i) q = rw (← el) A in
      rw (eu, el) (sofar_next t i p q s S h (sym turn_number ∙ e) B)

  -- what the turn leaves to look back by is known of the lines with this one
  pub turn_watched : j ≡ 0 → (w : Watch) → ((is_coord l ≡ true → p.block.lo < p.block.hi → p.block.hi ≡ i) → Watched t (grow_of p.block i l) w) → (c : Span) → c ≡ grow_of p.block i l → Watched t c w
  turn_watched e w f c ec =
      let q : Past = record { block = grow_of p.block i l; earlier = earlier_of p.block p.earlier l; near = p.near } in
      let G : Block (row t) (i + 1) (grow_of p.block i l) (next_of s l) = (turn_next e q (record { block = refl; earlier = refl }) (next_of s l) refl).block in
      watched_on t c (grow_of p.block i l) w ec (f (λ y. joined t i p.block s (next_of s l) l el y S.block G))
