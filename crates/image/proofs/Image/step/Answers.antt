-- `Image::step`, over `Device::step`.
use Rattle.std.proofs.Common.{◌≡◌, ◌∙◌, ap, ℕ}
use Rattle.paper.specs.Answers.{number_of}
use Rattle.paper.specs.Told.{tells}
use Rattle.image.proofs.Calls.{kept, left}
use Rattle.image.proofs.Image.step.Goals as goal

pub returns-then-answer-ne0 : goal.returns-then-answer-ne0
returns-then-answer-ne0 c =
    let refused : number_of c.step-s.result.answer ≡ 0 → ⊥ = λ e. c.if-answer-ne0.true (c.from-answer.ensures ∙ e) in
    ap (λ (n : ℕ). tells n c.args.self) c.from-answer.ensures ∙ search (left)

pub returns : goal.returns
returns c = ap (λ (n : ℕ). tells n c.keep-image.result) c.from-answer.ensures ∙ search (kept)
