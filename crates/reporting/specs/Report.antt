-- What the report program answers for its input, and the lines that it prints of an answer.
use Rattle.std.specs.Prelude.{◌∷◌, ◌++◌}
use Rattle.ascii.specs.Library.{ℕ, String, List, [], map, get_or, take, drop, ltb, length, bytes, pick}
use Rattle.places.specs.Counts.{no_counts}
use Rattle.gate.specs.Gate.{check_of, Verdict}

-- 809 lines
abbrev pub most_bytes : ℕ
most_bytes = 65529

-- 20 above that, and all other values 0; else the answer of the check
unfoldable pub report_of : List ℕ → Verdict
report_of t = pick (ltb most_bytes (length t)) (record { number = 20; line = 0; column = 0; good = 0; counts = no_counts }) (check_of t)

-- ---- the lines
-- a line of the report: its key, and which number of an answer stands behind it
pub record Listed : Type 0 where
  pub key : List ℕ
  pub number : Verdict → ℕ

abbrev pub listed : String → (Verdict → ℕ) → Listed
listed s f = record { key = bytes s; number = f }

-- the lines in their order
abbrev pub listing : List Listed
listing =
    listed "verdict=" (λ v. v.number)
    ∷ listed "line=" (λ v. v.line)
    ∷ listed "column=" (λ v. v.column)
    ∷ listed "lines=" (λ v. v.good)
    ∷ listed "remark=" (λ v. v.counts.remark)
    ∷ listed "het=" (λ v. v.counts.het)
    ∷ listed "helix=" (λ v. v.counts.helix)
    ∷ listed "sheet=" (λ v. v.counts.sheet)
    ∷ listed "xform=" (λ v. v.counts.xform)
    ∷ listed "coord=" (λ v. v.counts.coord)
    ∷ listed "ter=" (λ v. v.counts.ter)
    ∷ listed "conect=" (λ v. v.counts.conect)
    ∷ listed "seq=" (λ v. v.counts.seq)
    ∷ []

-- the numbers of an answer, in that order; C is answered them so too
abbrev pub numbers_of : Verdict → List ℕ
numbers_of v = map (λ l. l.number v) listing

-- the same without the column
abbrev pub plain_numbers_of : Verdict → List ℕ
plain_numbers_of v = take 2 (numbers_of v) ++ drop 3 (numbers_of v)

-- what stands before each number
abbrev pub keys : List (List ℕ)
keys = map (λ l. l.key) listing

abbrev pub key_of : ℕ → List ℕ
key_of i = get_or keys i []
