-- The device, as plain data.
use Rattle.datum.proofs.Datum.{Datum, struct}
use Rattle.device.specs.contracts.Device as Device
use Rattle.device.proofs.Device.TheLaws as Device'

abbrev pub device : Datum
device = struct Device.the_type Device'.the_laws Device'.the_plain Device'.the_copy
