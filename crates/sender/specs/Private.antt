-- For the promises of private functions: no reader has to believe it.
use Rattle.std.specs.Prelude.{ℕ, List}
use Rattle.device.specs.declared.Device.{Device}
use Rattle.layout.specs.Bytes.{laid}
use Rattle.request.specs.declared.Request.{Request}
use Rattle.status.specs.Page.{list_of}
use Rattle.words.specs.declared.Order.TheVariants.{Big}
use Rattle.sender.specs.Sent.{header_for}

-- the data of what is asked for
abbrev pub data_for : Device → Request → List ℕ
data_for d r = laid Big (header_for d r) (list_of d r)
