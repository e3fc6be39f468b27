-- Where the four rules between the serials stand among the fields, read from left to right; and what is left to read behind each.
-- Assumes nothing.
use mathlib.Core.Path.{◌≡◌, ◌∙◌, ap, refl, sym}
use mathlib.Core.Logic.{◌⊎◌, inl, inr}
use mathlib.Core.List.{List}
use mathlib.Core.Bool.{Bool, ◌&&◌}
use Prim.Native.Nat.{ℕ, ◌+◌, ◌≤◌}
use native.Mathlib.Omega.{arith}
use lib.Dec.{eqb}
use Rattle.ascii.specs.Tests.{both}
use Rattle.ascii.proofs.Bools.{and_both}
use Rattle.ascii.proofs.Choice.{picks}
use Rattle.columns.specs.Columns.{blame, blamed_of, first_of, leftmost, gap_of}
use Rattle.columns.specs.Answers.{read_as}
use Rattle.columns.specs.declared.Column.{Column}
use Rattle.columns.proofs.Readers.{good_value, then_good, then_wrong}
use Rattle.columns.proofs.Rules.{rule_past, rule_first, rule_most, first_assoc, first_least, least_from, gap_least}
use Rattle.fields.specs.Format.{read_of}
use Rattle.std.specs.Prelude.{Ok, Err}
use Rattle.conect.specs.declared.Conect.{Conect}
use Rattle.conect.specs.Conects.{serial_f, partner_f, partner_columns, partners_columns, serials_columns, differs, unbroken, conect_f, conect_columns}
use Rattle.conect.proofs.Laws.{serial_single}

-- a field's fault is its first column
abbrev First : ℕ → ℕ → Type 0
First f c = (f ≡ 0) ⊎ (f ≡ c)

most : (f c : ℕ) → First f c → f ≤ c
most f c (inl z) = omega arith
most f c (inr e) = omega arith

least : (f c : ℕ) → First f c → (f ≡ 0) ⊎ (c ≤ f)
least f c (inl z) = inl z
least f c (inr e) = inr (omega arith)

partner_first : (l : List ℕ) (at : ℕ) → First (partner_f.fault l at) (at + 1)
unfolding partner_columns
partner_first l at = picks (λ x. First x (at + 1)) (eqb (gap_of l at 5) 0) 0 (serial_f.fault l at) (λ _. inl refl) (λ _. serial_single.first l at)

module _ (t1 t2 t3 t4 : Bool) (s a b c d g : ℕ) (hs : First s 7) (ha : First a 12) (hb : First b 17) (hc : First c 22) (hd : First d 27) (hg : (g ≡ 0) ⊎ (27 ≤ g)) where
  abbrev r1 : ℕ
  r1 = blamed_of t1 12

  abbrev r2 : ℕ
  r2 = blamed_of t2 17

  abbrev r3 : ℕ
  r3 = blamed_of t3 22

  abbrev r4 : ℕ
  r4 = blamed_of t4 27

  from_d : (first_of d g ≡ 0) ⊎ (27 ≤ first_of d g)
  from_d = first_least d g 27 (least d 27 hd) hg

  from_c : (first_of c (first_of d g) ≡ 0) ⊎ (22 ≤ first_of c (first_of d g))
  from_c = first_least c (first_of d g) 22 (least c 22 hc) (least_from (first_of d g) 27 22 (omega arith) from_d)

  from_b : (first_of b (first_of c (first_of d g)) ≡ 0) ⊎ (17 ≤ first_of b (first_of c (first_of d g)))
  from_b = first_least b (first_of c (first_of d g)) 17 (least b 17 hb) (least_from (first_of c (first_of d g)) 22 17 (omega arith) from_c)

  left : (t : Bool) (k r q : ℕ) → 12 ≤ k → leftmost r (blamed_of t k) ≡ q → leftmost (first_of s (first_of a r)) (blamed_of t k) ≡ first_of s (first_of a q)
  left t k r q h e = rule_past t k s (first_of a r) (first_of a q) (omega (arith, most s 7 hs)) (rule_past t k a r q (omega (arith, most a 12 ha)) e)

  rule_1 : leftmost (first_of s (first_of a (first_of b (first_of c (first_of d g))))) r1 ≡ first_of s (first_of a (first_of r1 (first_of b (first_of c (first_of d g)))))
  rule_1 = left t1 12 _ _ (omega arith) (rule_first t1 12 _ (least_from (first_of b (first_of c (first_of d g))) 17 12 (omega arith) from_b))

  rule_2 : leftmost (first_of s (first_of a (first_of r1 (first_of b (first_of c (first_of d g)))))) r2
      ≡ first_of s (first_of a (first_of r1 (first_of b (first_of r2 (first_of c (first_of d g))))))
  rule_2 = left t2 17 _ _ (omega arith)
      (rule_past t2 17 r1 _ _ (omega (arith, rule_most t1 12))
      (rule_past t2 17 b _ _ (most b 17 hb) (rule_first t2 17 _ (least_from (first_of c (first_of d g)) 22 17 (omega arith) from_c))))

  rule_3 : leftmost (first_of s (first_of a (first_of r1 (first_of b (first_of r2 (first_of c (first_of d g))))))) r3
      ≡ first_of s (first_of a (first_of r1 (first_of b (first_of r2 (first_of c (first_of r3 (first_of d g)))))))
  rule_3 = left t3 22 _ _ (omega arith)
      (rule_past t3 22 r1 _ _ (omega (arith, rule_most t1 12))
      (rule_past t3 22 b _ _ (omega (arith, most b 17 hb))
      (rule_past t3 22 r2 _ _ (omega (arith, rule_most t2 17))
      (rule_past t3 22 c _ _ (most c 22 hc) (rule_first t3 22 _ (least_from (first_of d g) 27 22 (omega arith) from_d))))))

  rule_4 : leftmost (first_of s (first_of a (first_of r1 (first_of b (first_of r2 (first_of c (first_of r3 (first_of d g)))))))) r4
      ≡ first_of s (first_of a (first_of r1 (first_of b (first_of r2 (first_of c (first_of r3 (first_of d (first_of r4 g))))))))
  rule_4 = left t4 27 _ _ (omega arith)
      (rule_past t4 27 r1 _ _ (omega (arith, rule_most t1 12))
      (rule_past t4 27 b _ _ (omega (arith, most b 17 hb))
      (rule_past t4 27 r2 _ _ (omega (arith, rule_most t2 17))
      (rule_past t4 27 c _ _ (omega (arith, most c 22 hc))
      (rule_past t4 27 r3 _ _ (omega (arith, rule_most t3 22))
      (rule_past t4 27 d _ _ (most d 27 hd) (rule_first t4 27 g hg)))))))

  rules_in : leftmost (leftmost (leftmost (leftmost (first_of s (first_of a (first_of (first_of b (first_of c d)) g))) r1) r2) r3) r4
      ≡ first_of s (first_of a (first_of r1 (first_of b (first_of r2 (first_of c (first_of r3 (first_of d (first_of r4 g))))))))
  rules_in =
      ap (λ x. leftmost (leftmost (leftmost (leftmost (first_of s (first_of a x)) r1) r2) r3) r4) (first_assoc b (first_of c d) g ∙ ap (first_of b) (first_assoc c d g))
      ∙ ap (λ x. leftmost (leftmost (leftmost x r2) r3) r4) rule_1
      ∙ ap (λ x. leftmost (leftmost x r3) r4) rule_2
      ∙ ap (λ x. leftmost x r4) rule_3
      ∙ rule_4

module _ (l : List ℕ) where
  -- the faults right of each field and of each rule
  abbrev past_gap : ℕ
  past_gap = first_of (gap_of l 31 49) 0

  abbrev past_d : ℕ
  past_d = first_of (blame (both (differs (partner_f.value l 26) (serial_f.value l 6)) (unbroken (partner_f.value l 21) (partner_f.value l 26))) 26) past_gap

  abbrev past_third : ℕ
  past_third = first_of (partner_f.fault l 26) past_d

  abbrev past_c : ℕ
  past_c = first_of (blame (both (differs (partner_f.value l 21) (serial_f.value l 6)) (unbroken (partner_f.value l 16) (partner_f.value l 21))) 21) past_third

  abbrev past_second : ℕ
  past_second = first_of (partner_f.fault l 21) past_c

  abbrev past_b : ℕ
  past_b = first_of (blame (differs (partner_f.value l 16) (serial_f.value l 6)) 16) past_second

  abbrev past_first : ℕ
  past_first = first_of (partner_f.fault l 16) past_b

  abbrev past_a : ℕ
  past_a = first_of (blame (differs (serial_f.value l 11) (serial_f.value l 6)) 11) past_first

  abbrev past_serial : ℕ
  past_serial = first_of (serial_f.fault l 11) past_a

  abbrev read_here : Conect
  read_here =
      record {
        serial = record { 0 = serial_f.value l 6 };
        a = record { 0 = serial_f.value l 11 };
        b = record { 0 = partner_f.value l 16 };
        c = record { 0 = partner_f.value l 21 };
        d = record { 0 = partner_f.value l 26 };
      }

  -- each rule is checked right behind the partner that it blames
  pub conect_order : read_of conect_f l 6 ≡ read_as (first_of (serial_f.fault l 6) past_serial) read_here
  unfolding conect_columns serials_columns partners_columns blame blamed_of
  conect_order =
      ap (λ x. read_as x read_here)
      (rules_in
      (differs (serial_f.value l 11) (serial_f.value l 6))
      (differs (partner_f.value l 16) (serial_f.value l 6))
      (both (differs (partner_f.value l 21) (serial_f.value l 6)) (unbroken (partner_f.value l 16) (partner_f.value l 21)))
      (both (differs (partner_f.value l 26) (serial_f.value l 6)) (unbroken (partner_f.value l 21) (partner_f.value l 26)))
      (serial_f.fault l 6) (serial_f.fault l 11) (partner_f.fault l 16) (partner_f.fault l 21) (partner_f.fault l 26) past_gap
      (serial_single.first l 6) (serial_single.first l 11) (partner_first l 16) (partner_first l 21) (partner_first l 26)
      (first_least (gap_of l 31 49) 0 27 (least_from (gap_of l 31 49) 32 27 (omega arith) (gap_least l 31 49)) (inl refl)))

  -- what is read, once fields and rules from the left are passed
  module _ (s : ℕ) (hs : Ok s ≡ read_of serial_f l 6) where
    is_s : s ≡ serial_f.value l 6
    is_s = good_value _ _ _ hs

    pub after_serial : read_of conect_f l 6 ≡ read_as past_serial read_here
    after_serial = conect_order ∙ then_good _ _ _ _ _ hs

    module _ (a : ℕ) (ha : Ok a ≡ read_of serial_f l 11) (t1 : Bool) (e1 : t1 ≡ differs a s) where
      is_a : a ≡ serial_f.value l 11
      is_a = good_value _ _ _ ha

      after_a : read_of conect_f l 6 ≡ read_as past_a read_here
      after_a = after_serial ∙ then_good _ _ _ _ _ ha

      pub wrong_first : (x : Column) → Err x ≡ read_as (blame t1 11) (tt {0}) → Err x ≡ read_of conect_f l 6
      wrong_first x h = then_wrong _ _ _ _ _ (rw (e1, is_a, is_s) at h) ∙ sym after_a

      module _ (h1 : Ok (tt {0}) ≡ read_as (blame t1 11) (tt {0})) where
        pub after_first : read_of conect_f l 6 ≡ read_as past_first read_here
        after_first = after_a ∙ then_good _ _ _ _ _ (rw (e1, is_a, is_s) at h1)

        module _ (b : ℕ) (hb : Ok b ≡ read_of partner_f l 16) (t2 : Bool) (e2 : t2 ≡ differs b s) where
          is_b : b ≡ partner_f.value l 16
          is_b = good_value _ _ _ hb

          after_b : read_of conect_f l 6 ≡ read_as past_b read_here
          after_b = after_first ∙ then_good _ _ _ _ _ hb

          pub wrong_second : (x : Column) → Err x ≡ read_as (blame t2 16) (tt {0}) → Err x ≡ read_of conect_f l 6
          wrong_second x h = then_wrong _ _ _ _ _ (rw (e2, is_b, is_s) at h) ∙ sym after_b

          module _ (h2 : Ok (tt {0}) ≡ read_as (blame t2 16) (tt {0})) where
            pub after_second : read_of conect_f l 6 ≡ read_as past_second read_here
            after_second = after_b ∙ then_good _ _ _ _ _ (rw (e2, is_b, is_s) at h2)

            module _ (c : ℕ) (hc : Ok c ≡ read_of partner_f l 21) (t3 u3 : Bool) (e3 : t3 ≡ differs c s) (f3 : u3 ≡ unbroken b c) where
              is_c : c ≡ partner_f.value l 21
              is_c = good_value _ _ _ hc

              after_c : read_of conect_f l 6 ≡ read_as past_c read_here
              after_c = after_second ∙ then_good _ _ _ _ _ hc

              pub wrong_third : (x : Column) → Err x ≡ read_as (blame (t3 && u3) 21) (tt {0}) → Err x ≡ read_of conect_f l 6
              wrong_third x h = then_wrong _ _ _ _ _ (rw (and_both, e3, f3, is_b, is_c, is_s) at h) ∙ sym after_c

              module _ (h3 : Ok (tt {0}) ≡ read_as (blame (t3 && u3) 21) (tt {0})) where
                pub after_third : read_of conect_f l 6 ≡ read_as past_third read_here
                after_third = after_c ∙ then_good _ _ _ _ _ (rw (and_both, e3, f3, is_b, is_c, is_s) at h3)

                module _ (d : ℕ) (hd : Ok d ≡ read_of partner_f l 26) (t4 u4 : Bool) (e4 : t4 ≡ differs d s) (f4 : u4 ≡ unbroken c d) where
                  is_d : d ≡ partner_f.value l 26
                  is_d = good_value _ _ _ hd

                  after_d : read_of conect_f l 6 ≡ read_as past_d read_here
                  after_d = after_third ∙ then_good _ _ _ _ _ hd

                  pub wrong_fourth : (x : Column) → Err x ≡ read_as (blame (t4 && u4) 26) (tt {0}) → Err x ≡ read_of conect_f l 6
                  wrong_fourth x h = then_wrong _ _ _ _ _ (rw (and_both, e4, f4, is_c, is_d, is_s) at h) ∙ sym after_d

                  module _ (h4 : Ok (tt {0}) ≡ read_as (blame (t4 && u4) 26) (tt {0})) where
                    pub after_fourth : read_of conect_f l 6 ≡ read_as past_gap read_here
                    after_fourth = after_d ∙ then_good _ _ _ _ _ (rw (and_both, e4, f4, is_c, is_d, is_s) at h4)

                    pub all_good : Ok (tt {0}) ≡ read_as (gap_of l 31 49) (tt {0})
                        → Ok (record { serial = record { 0 = s }; a = record { 0 = a }; b = record { 0 = b }; c = record { 0 = c }; d = record { 0 = d } }) ≡ read_of conect_f l 6
                    all_good h = rw (is_s, is_a, is_b, is_c, is_d) (sym (after_fourth ∙ then_good _ _ _ _ _ h))
