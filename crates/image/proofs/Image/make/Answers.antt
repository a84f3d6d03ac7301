-- `Image::make`, over `making::make_device`.
use Rattle.std.proofs.Common.{◌≡◌, sym, ◌∙◌}
use Rattle.paper.specs.Answers.{number_of}
use Rattle.image.proofs.Calls.{made_refused, made_new}
use Rattle.image.proofs.Image.make.Goals as goal

pub returns-then-from-ne0 : goal.returns-then-from-ne0
returns-then-from-ne0 c =
    let refused : number_of c.make_device-s.result.answer ≡ 0 → ⊥ = λ e. c.if-from-ne0.true (c.from.ensures ∙ e) in
    c.with_answer.ensures ∙ search (made_refused)

pub returns : goal.returns
returns c =
    let done : number_of c.make_device-s.result.answer ≡ 0 = sym c.from.ensures ∙ c.if-from-ne0.false in
    c.with_answer-2.ensures ∙ search (made_new)
