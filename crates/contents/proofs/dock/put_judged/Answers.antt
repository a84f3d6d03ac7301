-- `contents::docking::put_judged`.
use Rattle.contents.proofs.DockContents.{data_refused}
use Rattle.contents.proofs.dock.put_judged.Goals as goal

pub returns-in-Err : goal.returns-in-Err
returns-in-Err c = search (data_refused)
