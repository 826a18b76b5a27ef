-- The number that reading a line tells of its record is the one that the writer takes for it.
use mathlib.Core.Path.{◌≡◌, refl}
use Rattle.records.specs.declared.record.Record.{Record}
use Rattle.records.specs.declared.record.Record.TheVariants.{Header, Sender, Shipment, Parcel, Product, Feature}
use Rattle.writer.specs.Write.{record_numbered}
use Rattle.peliranopi.specs.Told.{record_number}
use Rattle.std.specs.Prelude.{Some}

pub read_and_written : (kind : Record) → record_numbered (record_number kind) ≡ Some kind
unfolding record_numbered
read_and_written Header = refl
read_and_written Sender = refl
read_and_written Shipment = refl
read_and_written Parcel = refl
read_and_written Product = refl
read_and_written Feature = refl
