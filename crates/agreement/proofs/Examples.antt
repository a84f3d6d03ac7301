-- The definitions compute each row of the twelve examples.
use mathlib.Core.Path.{refl}
use Rattle.cells.specs.Cells.{is_set}
use Rattle.cells.specs.Sights.{see_in}
use Rattle.removal.specs.Remove.{judge_room, judge_found}
use Rattle.request.specs.Requests.{refused, takes_health}
use Rattle.status.specs.Page.{list_of, page_of}
use Rattle.table.specs.Search.{sight_in}
use Rattle.view.specs.Shown.{shown_of, asks}
use Rattle.agreement.specs.Examples.{Twelve}

pub twelve : Twelve
unfolding sight_in see_in is_set judge_room judge_found refused takes_health shown_of asks list_of page_of
twelve = refl
