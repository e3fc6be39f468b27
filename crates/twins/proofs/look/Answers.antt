use Rattle.std.proofs.Common.{Some}
use mathlib.Core.Path.{◌∙◌, sym, ap}
use native.Mathlib.Omega.{arith}
use Rattle.facets.specs.Facets.{is_spot}
use Rattle.twins.proofs.Standing.{row_piece, coord_long, watched_other, twin_self, stands_told, unlike_join}
use Rattle.twins.proofs.look.Goals as goal

pub follow-start-requires-clause-i_in_bounds : goal.follow-start-requires-clause-i_in_bounds
follow-start-requires-clause-i_in_bounds c = coord_long c.args.text.now _ _ c.requires.i_in_bounds.0 c.requires.i_in_bounds.1 (ap is_spot (sym c.spot_in.ensures ∙ c.in-Some-Site.is))

pub piece_at-piece-requires : goal.piece_at-piece-requires
piece_at-piece-requires c = coord_long c.args.text.now _ _ c.requires.i_in_bounds.0 c.requires.i_in_bounds.1 (ap is_spot (sym c.spot_in.ensures ∙ c.in-Some-Site.is))

pub met-requires : goal.met-requires
met-requires c = (c.requires.rising.inside, c.requires.i_in_bounds.1 ∙ sym (row_piece _ _ _ c.piece_at-piece.ensures))

pub follow-requires-clause-i_in_bounds : goal.follow-requires-clause-i_in_bounds
follow-requires-clause-i_in_bounds c = coord_long c.args.text.now _ _ c.requires.i_in_bounds.0 c.requires.i_in_bounds.1 (ap is_spot (sym c.spot_in.ensures ∙ c.in-Some-Close.is))

pub returns-in-Some-Site-clause-by_index : goal.returns-in-Some-Site-clause-by_index
returns-in-Some-Site-clause-by_index c n s B =
    let t = c.args.text.now in
    let p = c.in-Some-Site.is ∙ ap Some c.in-Some-Site.field-0-is in
    let l = c.requires.i_in_bounds.1 ∙ sym (row_piece t c.args.i _ c.piece_at-piece.ensures) in
    rw (← c.spot_in.ensures, p) (stands_told t n c.args.b s B _ _ (twin_self _ _ _ _ _ l c.spot_in.ensures p) _ (omega (arith, c.follow-start.ensures.lo_le_start.0, c.suspect-from.ensures.0)) (unlike_join t _ _ _ _ (rw (← c.piece_at-piece.ensures) at c.follow-start.ensures.lo_le_start.2) c.suspect-from.ensures.1) _ (c.met.ensures _ _ (sym c.spot_in.ensures ∙ p)))

pub returns-in-None-clause-watched_2 : goal.returns-in-None-clause-watched_2
returns-in-None-clause-watched_2 c h = watched_other c.args.text.now c.args.b c.args.i c.args.l _ (ap is_spot (sym c.spot_in.ensures ∙ c.in-None.is)) (c.carried_on.ensures _ _ c.requires.watched)
