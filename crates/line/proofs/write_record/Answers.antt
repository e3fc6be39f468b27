use Rattle.words.specs.Words.{bytes_of}
use Rattle.line.proofs.write_record.Goals as goal

pub returns-in-Coordinate-clause-line_after : goal.returns-in-Coordinate-clause-line_after
returns-in-Coordinate-clause-line_after c = rw c.in-Coordinate.is c.write_atom.ensures.line_after

pub returns-in-Ter-clause-line_after : goal.returns-in-Ter-clause-line_after
returns-in-Ter-clause-line_after c = rw c.in-Ter.is c.write_ter.ensures.line_after

pub returns-in-Helix-clause-line_after : goal.returns-in-Helix-clause-line_after
returns-in-Helix-clause-line_after c = rw c.in-Helix.is c.write_helix.ensures.line_after

pub returns-in-Sheet-clause-line_after : goal.returns-in-Sheet-clause-line_after
returns-in-Sheet-clause-line_after c = rw c.in-Sheet.is c.write_sheet.ensures.line_after

pub returns-in-Conect-clause-line_after : goal.returns-in-Conect-clause-line_after
returns-in-Conect-clause-line_after c = rw c.in-Conect.is c.write_conect.ensures.line_after

pub returns-in-Master-clause-line_after : goal.returns-in-Master-clause-line_after
returns-in-Master-clause-line_after c = rw c.in-Master.is c.write_master.ensures.line_after

pub returns-in-End-clause-line_after : goal.returns-in-End-clause-line_after
unfolding bytes_of
returns-in-End-clause-line_after c = rw c.in-End.is c.write.ensures.line_after

pub returns-in-Model-clause-line_after : goal.returns-in-Model-clause-line_after
returns-in-Model-clause-line_after c = rw c.in-Model.is c.write_model.ensures.line_after

pub returns-in-Endmdl-clause-line_after : goal.returns-in-Endmdl-clause-line_after
unfolding bytes_of
returns-in-Endmdl-clause-line_after c = rw c.in-Endmdl.is c.write-in-Endmdl.ensures.line_after

pub returns-in-Cell-clause-line_after : goal.returns-in-Cell-clause-line_after
returns-in-Cell-clause-line_after c = rw c.in-Cell.is c.write_cell.ensures.line_after

pub returns-in-Transform-clause-line_after : goal.returns-in-Transform-clause-line_after
returns-in-Transform-clause-line_after c = rw c.in-Transform.is c.write_transform.ensures.line_after
