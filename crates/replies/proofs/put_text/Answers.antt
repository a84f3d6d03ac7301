-- `replies::put_text`.
use Rattle.replies.proofs.Replies.{at_nothing, at_stored, at_cells, at_reading}
use Rattle.replies.proofs.put_text.Goals as goal

pub returns-in-Nothing : goal.returns-in-Nothing
returns-in-Nothing c = search (at_nothing)

pub returns-in-NotACall : goal.returns-in-NotACall
returns-in-NotACall c = search (at_stored)

pub returns-in-NoDevice : goal.returns-in-NoDevice
returns-in-NoDevice c = search (at_stored)

pub returns-in-Outside : goal.returns-in-Outside
returns-in-Outside c = search (at_stored)

pub returns-in-Length : goal.returns-in-Length
returns-in-Length c = search (at_stored)

pub returns-in-Cells : goal.returns-in-Cells
returns-in-Cells c = search (at_cells)

pub returns-in-Read : goal.returns-in-Read
returns-in-Read c = search (at_reading)

pub returns-in-Next : goal.returns-in-Next
returns-in-Next c = search (at_stored)

pub returns-in-ReadScsi : goal.returns-in-ReadScsi
returns-in-ReadScsi c = search (at_reading)
