-- The record that C keeps, as plain data.
use Rattle.datum.proofs.Datum.{Datum, struct}
use Rattle.image.specs.contracts.Image as Image
use Rattle.image.proofs.Image.TheLaws as Image'

abbrev pub image : Datum
image = struct Image.the_type Image'.the_laws Image'.the_plain Image'.the_copy
