-- What a page shows of a device: the table and the cells. No page shows the position.
use Rattle.status.specs.Lent.{lent}
use Rattle.status.specs.Page.{list_of, page_of}
use Rattle.calls.specs.Promises.{PositionUnshown}

pub position_unshown : PositionUnshown
unfolding list_of page_of
position_unshown d x same s r buf =
    λ i. lent (record { table = same.table i; cells = same.cells i; position = d.position }) s r buf
