-- HELIX is lawful. Assumes nothing.
use mathlib.Core.Logic.{inr}
use mathlib.Core.List.{List}
use mathlib.Core.Path.{refl}
use Prim.Native.Nat.{ℕ}
use Rattle.ascii.specs.Tests.{same}
use Rattle.fields.specs.Format.{blank_fields, whole_f, ◌then◌, after}
use Rattle.fields.proofs.Sides.{HasColumn, has_right}
use Rattle.fields.proofs.Formats.{Lawful, whole_lawful, none_lawful, then_lawful, after_lawful, held_lawful, under_lawful}
use Rattle.names.specs.Names.{name_f, is_identifier}
use Rattle.names.proofs.Shapes.{name_lawful}
use Rattle.names.proofs.Classes.{identifier_fine}
use Rattle.words.proofs.Laws.{word_lawful}
use Rattle.residue.specs.Residues.{residue_f}
use Rattle.residue.proofs.Returns.{residue_lawful, chain_field}
use Rattle.residue.specs.declared.Residue.{Residue}
use Rattle.helix.specs.declared.Extent.{Extent}
use Rattle.helix.specs.declared.Comment.{Comment}
use Rattle.helix.specs.declared.Helix.{Helix}
use Rattle.helix.specs.Helices.{extent_f, extent_columns, comment_f, comment_columns, helix_f, helix_columns}

abbrev to_extent : (ℕ × (List ℕ × (Residue × Residue))) → Extent
to_extent = λ (serial, (id, (first, last))). record { serial = serial; id = id; first = first; last = last }

abbrev from_extent : Extent → (ℕ × (List ℕ × (Residue × Residue)))
from_extent e = (e.serial, (e.id, (e.first, e.last)))

-- the last chain is a field
last_chain_field : (l : List ℕ) → HasColumn 32 ((after 1 (whole_f 3 1 999 then after 1 (name_f 3 is_identifier then after 1 (residue_f 1 then after 1 (residue_f 1))))).fields l 6)
unfolding HasColumn
last_chain_field l =
    has_right 32 (blank_fields l 6 1) _
    (inr (has_right 32 (blank_fields l 10 1) _
    (inr (has_right 32 (blank_fields l 14 1) _ (has_right 32 ((residue_f 1).fields l 15) _ (has_right 32 (blank_fields l 26 1) _ (chain_field 1 27 l)))))))

extent_lawful : Lawful extent_f 6
unfolding extent_columns
extent_lawful =
    under_lawful (λ (e : Extent). same e.first.chain e.last.chain) 32 tt
    last_chain_field
    (held_lawful to_extent from_extent (λ e. refl) (λ f. refl)
    (after_lawful 1
    (then_lawful (whole_lawful 3 1 999 tt)
    (after_lawful 1
    (then_lawful (name_lawful 3 is_identifier identifier_fine) (after_lawful 1 (then_lawful (residue_lawful 1) (after_lawful 1 (residue_lawful 1)))))))))

abbrev to_comment : (ℕ × (ℕ × (ℕ × ℕ))) → Comment
to_comment = λ (a, (b, (c, d))). record { a = a; b = b; c = c; d = d }

abbrev from_comment : Comment → (ℕ × (ℕ × (ℕ × ℕ)))
from_comment c = (c.a, (c.b, (c.c, c.d)))

comment_lawful : {begin : ℕ} → Lawful comment_f begin
unfolding comment_columns
comment_lawful =
    held_lawful to_comment from_comment (λ c. refl) (λ f. refl)
    (then_lawful (word_lawful 8) (then_lawful (word_lawful 8) (then_lawful (word_lawful 7) (word_lawful 7))))

abbrev to_helix : (Extent × (ℕ × (Comment × (ℕ × Unit {0})))) → Helix
to_helix = λ (extent, (class, (comment, (length, none)))). record { extent = extent; class = class; comment = comment; length = length }

abbrev from_helix : Helix → (Extent × (ℕ × (Comment × (ℕ × Unit {0}))))
from_helix h = (h.extent, (h.class, (h.comment, (h.length, tt))))

pub helix_lawful : Lawful helix_f 6
unfolding helix_columns
helix_lawful =
    held_lawful to_helix from_helix (λ h. refl) (λ f. refl)
    (then_lawful extent_lawful
    (then_lawful (whole_lawful 2 1 10 tt)
    (then_lawful comment_lawful (after_lawful 1 (then_lawful (whole_lawful 5 1 99999 tt) (after_lawful 4 none_lawful))))))
