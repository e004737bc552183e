-- The machine that the tables mean.
use Rattle.std.specs.Prelude.{List}
use Rattle.pool.specs.declared.place.Place.{Place}
use Rattle.machine.specs.Machine.{Machine}
use Rattle.tables.specs.declared.Tables.{Tables}

-- the tables, beside a pool whose buffers lie at the places, mean a machine
abbrev pub machine_of : Tables → List Place → Machine
machine_of t pl = record {
  processes = t.processes;
  messages = t.records;
  workers = t.workers;
  places = pl;
  posted = t.posted;
  floor = t.floor;
  rounding = t.rounding;
  gvt = t.gvt;
}
