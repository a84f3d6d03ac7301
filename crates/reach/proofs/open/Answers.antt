use Rattle.std.proofs.Common.{sym, ◌∙◌, rules}
use Rattle.reach.proofs.Bounds.{open_older, open_newer, open_both}
use Rattle.reach.proofs.open.Goals as goal

pub returns-in_err-or : goal.returns-in_err-or
returns-in_err-or c = search (rules, open_older)

pub returns-in_err-or-2 : goal.returns-in_err-or-2
returns-in_err-or-2 c = search (rules, open_newer)

pub returns : goal.returns
returns c =
    open_both _ _ _ _ c.read.ensures _ (sym c.or.ensures ∙ c.in_ok-or.was) _ c.read-2.ensures _ (sym c.or-2.ensures ∙ c.in_ok-or-2.was) _ c.bound_of.ensures
