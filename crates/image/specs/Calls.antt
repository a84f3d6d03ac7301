-- The calls on an image: what the call by value tells of the device that the image is, put down in it.
use Rattle.std.specs.Prelude.{cond, eqb}
use Rattle.device.specs.Machine.{Event, told}
use Rattle.device.specs.declared.Device.{Device}
use Rattle.making.specs.Making.{made_of}
use Rattle.offer.specs.declared.Offer.{Offer}
use Rattle.paper.specs.Told.{Told, tells}
use Rattle.image.specs.Keeping.{keeps, image_of}
use Rattle.image.specs.Reading.{device_of}
use Rattle.image.specs.declared.Image.{Image}

-- every event
unfoldable pub told_of : Image → Event → Told Image
told_of i e =
    let t = told (device_of i) e in
    tells t.number (keeps i t.state)

-- the making of a device: a new image, or 8 and the image that was there
abbrev pub made_as : Image → Told Device → Told Image
made_as i t = tells t.number (cond (eqb t.number 0) (image_of t.state) i)

unfoldable pub made_by : Image → Offer → Told Image
made_by i o = made_as i (made_of (device_of i) o)
