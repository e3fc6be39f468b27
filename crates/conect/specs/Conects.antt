-- CONECT: its columns 7 to 80. A partner that is not there is 0.
use Rattle.ascii.specs.Library.{ℕ, Bool, true, false, eqb, leb, ltb, pick, both}
use Rattle.columns.specs.Columns.{blanks}
use Rattle.fields.specs.Format.{Format, whole_f, none_f, ◌then◌, after, held, under, shut}
use Rattle.fields.specs.Choice.{maybe}
use Rattle.conect.specs.declared.{Conect.Conect}

abbrev pub serial_f : Format ℕ
serial_f = whole_f 5 1 99999

-- a partner: a serial, or blank
unfoldable pub partner_columns : Format ℕ
partner_columns = maybe serial_f 0 (λ v. v) (λ v. pick (eqb v 0) (blanks 5) (serial_f.text v)) (λ v. leb v 99999)

abbrev pub partner_f : Format ℕ
partner_f = shut 5 partner_columns

-- the partners that may be blank: 17-21, 22-26, 27-31
unfoldable pub partners_columns : Format (ℕ × (ℕ × ℕ))
partners_columns = partner_f then partner_f then partner_f

abbrev pub partners_f : Format (ℕ × (ℕ × ℕ))
partners_f = shut 15 partners_columns

-- two numbers that differ
unfoldable pub differs : ℕ → ℕ → Bool
differs a b = pick (eqb a b) false true

-- the next partner is there only if this one is
unfoldable pub unbroken : ℕ → ℕ → Bool
unbroken a next = pick (eqb next 0) true (ltb 0 a)

-- serial 7-11, partners from 12 on, the first of them filled
unfoldable pub serials_columns : Format Conect
serials_columns =
    held (serial_f then serial_f then partners_f then after 49 none_f)
    (λ (serial, (a, ((b, (c, d)), none))).
    record { serial = record { 0 = serial }; a = record { 0 = a }; b = record { 0 = b }; c = record { 0 = c }; d = record { 0 = d } })
    (λ r. (r.serial.0, (r.a.0, ((r.b.0, (r.c.0, r.d.0)), tt))))

abbrev pub serials_f : Format Conect
serials_f = shut 74 serials_columns

-- no partner is the serial itself, and a partner stands only right of another; the partner is blamed
unfoldable pub conect_columns : Format Conect
conect_columns =
    under (under (under (under serials_f (λ r. differs r.a.0 r.serial.0) 12) (λ r. differs r.b.0 r.serial.0) 17)
    (λ r. both (differs r.c.0 r.serial.0) (unbroken r.b.0 r.c.0)) 22)
    (λ r. both (differs r.d.0 r.serial.0) (unbroken r.c.0 r.d.0)) 27

abbrev pub conect_f : Format Conect
conect_f = shut 74 conect_columns
