-- The private fields of a frame that is kept in its place, as the frame.
use Rattle.std.specs.Prelude.{◌<◌, ◌≤◌, ◌^◌, take}
use Rattle.fr_frame.specs.Fields.{Fields}
use Rattle.fr_frame.specs.Payload.{IsPayload}
use Rattle.fr_judging.specs.declared.kept.KeptFrame.TheInside.{Inside}

abbrev pub fields_in : Inside → Fields
fields_in f = record {
  preamble = f.preamble;
  has_data = f.has_data;
  sync = f.sync;
  startup = f.startup;
  id = f.id;
  payload = take f.length f.bytes;
  cycle = f.cycle;
}

-- The bytes are those of a payload, and of the others nothing is known.
pub record HasFrame (f : Inside) : Type 0 where
  pub id_fits : f.id < 2 ^ 11
  pub within : f.length ≤ 254
  pub payload_fits : IsPayload (take f.length f.bytes)
