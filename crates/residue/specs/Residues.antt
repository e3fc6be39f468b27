-- A residue: name, a blank, chain, number, insertion code. In HELIX a blank stands between chain and number: `gap` is 1 there, else 0.
use Rattle.std.specs.Prelude.{◌+◌, ◌∷◌, bytes_eq}
use Rattle.ascii.specs.Library.{ℕ, [], Bool, eqb, pos, both}
use Rattle.fields.specs.Field.{same_integer}
use Rattle.fields.specs.Format.{Format, integer_f, byte_f, ◌then◌, after, held, shut}
use Rattle.names.specs.Names.{name_f, is_residue, is_chain, is_insertion}
use Rattle.residue.specs.declared.{Residue.Residue}

-- no residue
abbrev pub no_residue : Residue
no_residue = record { name = 0 ∷ 0 ∷ 0 ∷ []; chain = 0; number = record { 0 = pos 0 }; insertion = 0 }

-- equal residue name, chain, number and insertion code
unfoldable pub same_residue : Residue → Residue → Bool
same_residue a b =
    both (bytes_eq a.name b.name)
    (both (eqb a.chain b.chain)
    (both (same_integer a.number.0 b.number.0) (eqb a.insertion b.insertion)))

-- ---- its columns
unfoldable pub residue_columns : ℕ → Format Residue
residue_columns gap =
    held (name_f 3 is_residue then after 1 (byte_f is_chain then after gap (integer_f 4 999 9999 then byte_f is_insertion)))
    (λ (name, (chain, (number, insertion))). record { name = name; chain = chain; number = record { 0 = number }; insertion = insertion })
    (λ r. (r.name, (r.chain, (r.number.0, r.insertion))))

abbrev pub residue_f : ℕ → Format Residue
residue_f gap = shut (10 + gap) (residue_columns gap)
