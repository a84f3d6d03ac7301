-- The bench examples and the edges hold: the definitions compute each row. Device A is made of its table (specs/Examples).
use mathlib.Core.Path.{refl}
use Rattle.cells.specs.Cells.{is_set}
use Rattle.cells.specs.Sights.{see_in}
use Rattle.device.specs.Commands.{media_number, other_number}
use Rattle.offer.specs.Check.{good}
use Rattle.open.specs.Open.{is_open}
use Rattle.removal.specs.Remove.{judge_room, judge_found}
use Rattle.request.specs.Requests.{refused}
use Rattle.steps.specs.Steps.{grade_seen}
use Rattle.table.specs.Search.{sight_in}
use Rattle.making.specs.Examples.{MadeOfA, RowsHold, RemovalsHold, OthersHold}
use Rattle.making.specs.Making.{made_of}

pub rows_hold : RowsHold
unfolding sight_in see_in is_set judge_room judge_found
rows_hold = refl

pub removals_hold : RemovalsHold
unfolding sight_in see_in is_set judge_room judge_found grade_seen
removals_hold = refl

pub others_hold : OthersHold
unfolding sight_in see_in is_set judge_room judge_found is_open media_number other_number refused
others_hold = refl

pub made_of_a : MadeOfA
unfolding good made_of
made_of_a there = (refl, refl, refl)
