-- The rules between lines: a line is judged against what the good lines before it left.
use Rattle.std.specs.Prelude.{◌+◌, Option, Some, None, ◌∷◌, bytes_eq}
use Rattle.ascii.specs.Library.{ℕ, Bool, true, false, not, ltb, leb, eqb, pick, both, either, []}
use Rattle.fields.specs.declared.{Serial.Serial}
use Rattle.conect.specs.declared.{Conect.Conect}
use Rattle.master.specs.declared.{Tally.Tally}
use Rattle.refusals.specs.Numbers.{number_of}
use Rattle.residue.specs.declared.{Residue.Residue}
use Rattle.residue.specs.Residues.{no_residue, same_residue}
use Rattle.sheet.specs.declared.{Strand.Strand}
use Rattle.kinds.specs.declared.{Kind.Kind}
use Rattle.kinds.specs.Kinds.{row_of}
use Rattle.line.specs.declared.{Record.Record}
use Rattle.pieces.specs.declared.{Line.Line, Line.TheVariants.Bad, Line.TheVariants.Wrong, Line.TheVariants.Carried, Line.TheVariants.Typed}
use Rattle.places.specs.declared.{Counts.Counts, Models.Models}
use Rattle.places.specs.Places.{place_bad, fence_bad, no_models}
use Rattle.places.specs.Counts.{count_at, no_counts, raised, same_counts}
use Rattle.facets.specs.declared.{Spot.Spot, Spot.TheVariants.Site, Spot.TheVariants.Close, Fold.Fold, Fold.TheVariants.Turn, Fold.TheVariants.Rung, Fence.Fence, Fence.TheVariants.Opens, Fence.TheVariants.Shuts}
use Rattle.facets.specs.Facets.{record_kind, spot_of, bond_of, fold_of, total_of, fence_of}
use Rattle.rules.specs.declared.{Looked.Looked, Run.Run, Ladder.Ladder, State.State}

-- ---- 22: models are numbered 1, 2, 3, ..
abbrev pub model_bad : Models → Option Fence → Bool
model_bad m (Some (Opens n)) = not (eqb n (m.number + 1))
model_bad m (Some Shuts) = false
model_bad m None = false

-- MODEL opens a model, ENDMDL shuts it
abbrev pub models_next : Models → Option Fence → Models
models_next m (Some (Opens n)) = record { inside = true; past = m.past; number = n }
models_next m (Some Shuts) = record { inside = false; past = true; number = m.number }
models_next m None = m

-- what begins afresh at MODEL and at ENDMDL, and what it is after any other line
abbrev pub afresh : {A : Type 0} → A → Option Fence → A → A
afresh start (Some e) x = start
afresh start None x = x

-- ---- 7: serials rise strictly over ATOM, HETATM and TER together
abbrev pub serial_bad : Serial → Option Spot → Bool
serial_bad last (Some (Site het a)) = leb a.identity.serial.0 last.0
serial_bad last (Some (Close t)) = leb t.serial.0 last.0
serial_bad last None = false

-- the last serial is that of the last such line
abbrev pub last_next : Serial → Option Spot → Serial
last_next last (Some (Site het a)) = a.identity.serial
last_next last (Some (Close t)) = t.serial
last_next last None = last

-- ---- 8: a run is the coordinate lines since the last TER
-- a run without a line
abbrev pub no_run : Run
no_run = record { some = false; same = true; atom = false; residue = no_residue }

-- all lines before an ATOM in its run have its chain; a HETATM in a run that holds an ATOM has that chain
unfoldable pub site_bad : Run → Bool → ℕ → Bool
site_bad r het chain =
    pick het
    (both r.atom (not (eqb chain r.residue.chain)))
    (both r.some (not (both r.same (eqb chain r.residue.chain))))

-- TER closes a run that holds an ATOM, and repeats the residue of its last line
unfoldable pub close_bad : Run → Residue → Bool
close_bad r residue = not (both r.atom (same_residue residue r.residue))

-- a run that holds an ATOM is closed before any other kind of line
abbrev pub run_bad : Run → Option Spot → Bool
run_bad r (Some (Site het a)) = site_bad r het a.identity.residue.chain
run_bad r (Some (Close t)) = close_bad r t.residue
run_bad r None = r.atom

-- a run with one line more: whether all its lines have one chain, whether it holds an ATOM, and the residue of its last line
unfoldable pub site_next : Run → Bool → Residue → Run
site_next r het residue =
    record {
      some = true;
      same = either (not r.some) (both r.same (eqb residue.chain r.residue.chain));
      atom = either r.atom (not het);
      residue = residue;
    }

-- TER leaves an empty run
abbrev pub run_next : Run → Option Spot → Run
run_next r (Some (Site het a)) = site_next r het a.identity.residue
run_next r (Some (Close t)) = no_run
run_next r None = r

-- ---- 9: CONECT serials do not fall, and each number on the line is the serial of an atom (known)
abbrev pub bond_bad : Bool → Serial → Option Conect → Bool
bond_bad known last (Some c) = either (not known) (ltb c.serial.0 last.0)
bond_bad known last None = false

-- the last CONECT serial
abbrev pub bond_next : Serial → Option Conect → Serial
bond_next last (Some c) = c.serial
bond_next last None = last

-- ---- 10: helix serials are 1, 2, 3, ..; a sheet is strands 1 to n
-- the sheet of the last SHEET line has strands to come
unfoldable pub unfinished : Ladder → Bool
unfinished d = ltb d.strand d.strands

-- no sheet
abbrev pub no_ladder : Ladder
no_ladder = record { id = 0 ∷ 0 ∷ 0 ∷ []; strand = 0; strands = 0 }

-- an unfinished sheet goes on with its next strand, its identifier and its number of strands; the next one begins with strand 1,
-- and its identifier differs from that of the sheet just before
unfoldable pub strand_bad : Ladder → Strand → Bool
strand_bad d s =
    pick (unfinished d)
    (not (both (bytes_eq s.id d.id) (both (eqb s.strands d.strands) (eqb s.strand (d.strand + 1)))))
    (either (not (eqb s.strand 1)) (both (ltb 0 d.strands) (bytes_eq s.id d.id)))

-- every kind but SHEET starts only after the last strand
abbrev pub fold_bad : ℕ → Ladder → Option Fold → Bool
fold_bad helix d (Some (Turn serial)) = either (unfinished d) (not (eqb serial (helix + 1)))
fold_bad helix d (Some (Rung s)) = strand_bad d s
fold_bad helix d None = unfinished d

-- the last helix serial
abbrev pub helix_next : ℕ → Option Fold → ℕ
helix_next helix (Some (Turn serial)) = serial
helix_next helix (Some (Rung s)) = helix
helix_next helix None = helix

-- the last SHEET line
abbrev pub ladder_next : Ladder → Option Fold → Ladder
ladder_next d (Some (Turn serial)) = d
ladder_next d (Some (Rung s)) = record { id = s.id; strand = s.strand; strands = s.strands }
ladder_next d None = d

-- ---- 11: MASTER holds the true counts
abbrev pub count_bad : Counts → Option Tally → Bool
count_bad n (Some t) = not (same_counts t n)
count_bad n None = false

-- ---- the first number of a typed line, 0 where it is good: 5, 22, 7, 8, 21, 9, 10, 11; 21: its atom stands on a line before it (twin)
unfoldable pub typed_bad : Looked → State → Record → ℕ
typed_bad look s r =
    pick (place_bad s.place (record_kind r)) 5
    (pick (fence_bad s.place s.models (record_kind r)) 5
    (pick (model_bad s.models (fence_of r)) 22
    (pick (serial_bad s.last (spot_of r)) 7
    (pick (run_bad s.run (spot_of r)) 8
    (pick look.twin 21
    (pick (bond_bad look.known s.bond (bond_of r)) 9
    (pick (fold_bad s.helix s.ladder (fold_of r)) 10
    (pick (count_bad s.counts (total_of r)) 11 0))))))))

-- the number of any line, and what a look back over the lines before it said
unfoldable pub judge_of : Looked → State → Line → ℕ
judge_of look s (Bad r) = number_of r
judge_of look s (Wrong k column) = pick (place_bad s.place k) 5 (pick (fence_bad s.place s.models k) 5 6)
judge_of look s (Carried k) = pick (place_bad s.place k) 5 (pick (fence_bad s.place s.models k) 5 (pick (unfinished s.ladder) 10 0))
judge_of look s (Typed r) = typed_bad look s r

-- ---- what a good line leaves
-- below every serial
abbrev pub no_serial : Serial
no_serial = record { 0 = 0 }

-- before the first line
unfoldable pub start_of : State
start_of =
    record { place = 0; models = no_models; last = no_serial; run = no_run; bond = no_serial; helix = 0; ladder = no_ladder; counts = no_counts; lines = 0 }

-- a line of a kind moves each part by its own step, and is counted; serials and runs begin afresh in each model
abbrev pub moved : State → Kind → Option Spot → Option Conect → Option Fold → Option Fence → State
moved s k spot bond fold fence =
    record {
      place = (row_of k).here;
      models = models_next s.models fence;
      last = afresh no_serial fence (last_next s.last spot);
      run = afresh no_run fence (run_next s.run spot);
      bond = bond_next s.bond bond;
      helix = helix_next s.helix fold;
      ladder = ladder_next s.ladder fold;
      counts = raised s.counts (count_at s.models.past k);
      lines = s.lines + 1;
    }

unfoldable pub carried_next : State → Kind → State
carried_next s k = moved s k None None None None

unfoldable pub typed_next : State → Record → State
typed_next s r = moved s (record_kind r) (spot_of r) (bond_of r) (fold_of r) (fence_of r)

-- a line that is refused leaves nothing
unfoldable pub next_of : State → Line → State
next_of s (Bad r) = s
next_of s (Wrong k column) = s
next_of s (Carried k) = carried_next s k
next_of s (Typed r) = typed_next s r
