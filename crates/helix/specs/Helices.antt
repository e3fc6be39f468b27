-- HELIX: its columns 7 to 80.
use Rattle.ascii.specs.Library.{same}
use Rattle.fields.specs.Format.{Format, whole_f, none_f, ◌then◌, after, held, under, shut}
use Rattle.names.specs.Names.{name_f, is_identifier}
use Rattle.words.specs.Words.{word_f}
use Rattle.residue.specs.Residues.{residue_f}
use Rattle.helix.specs.declared.{Extent.Extent, Comment.Comment, Helix.Helix}

-- ---- columns 7 to 38: serial 8-10, identifier 12-14, first residue 16-26, last residue 28-38
-- both chains are equal: the second, column 32, is blamed
unfoldable pub extent_columns : Format Extent
extent_columns =
    under
    (held (after 1 (whole_f 3 1 999 then after 1 (name_f 3 is_identifier then after 1 (residue_f 1 then after 1 (residue_f 1)))))
    (λ (serial, (id, (first, last))). record { serial = serial; id = id; first = first; last = last })
    (λ e. (e.serial, (e.id, (e.first, e.last)))))
    (λ e. same e.first.chain e.last.chain) 32

abbrev pub extent_f : Format Extent
extent_f = shut 32 extent_columns

-- ---- columns 41 to 70, free, as four words
unfoldable pub comment_columns : Format Comment
comment_columns =
    held (word_f 8 then word_f 8 then word_f 7 then word_f 7)
    (λ (a, (b, (c, d))). record { a = a; b = b; c = c; d = d }) (λ c. (c.a, (c.b, (c.c, c.d))))

abbrev pub comment_f : Format Comment
comment_f = shut 30 comment_columns

-- ---- columns 7 to 80: the extent, class 39-40, comment 41-70, length 72-76
unfoldable pub helix_columns : Format Helix
helix_columns =
    held (extent_f then whole_f 2 1 10 then comment_f then after 1 (whole_f 5 1 99999 then after 4 none_f))
    (λ (extent, (class, (comment, (length, none)))). record { extent = extent; class = class; comment = comment; length = length })
    (λ h. (h.extent, (h.class, (h.comment, (h.length, tt)))))

abbrev pub helix_f : Format Helix
helix_f = shut 74 helix_columns
