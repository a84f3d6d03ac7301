-- docs/BENCH.md: a script, line by line.
use Rattle.std.specs.Prelude.{ℕ, cond, List, take}
use Rattle.acts.specs.Acts.{acted_on, page_on, lent_on}
use Rattle.arguments.specs.declared.Line.{Line}
use Rattle.pieces.specs.Pieces.{nothing}
use Rattle.pieces.specs.declared.Gathered.{Gathered}
use Rattle.pieces.specs.declared.Taken.{Taken}
use Rattle.replies.specs.Replies.{text_of}
use Rattle.script.specs.Names.{meaning_of}
use Rattle.workbench.specs.Empty.{empty}
use Rattle.workbench.specs.declared.Bench.{Bench}
use Rattle.writing.specs.Writing.{stored_in, ended_in}
use Rattle.runs.specs.declared.Obeyed.{Obeyed}
use Rattle.runs.specs.declared.Run.{Run}
use Rattle.runs.specs.declared.Went.{Went}

-- what a script starts from: no byte of its first line read, and the empty bench
abbrev pub new_run : Run
new_run = record { line = nothing; bench = empty }

-- ## A line

-- the text that it says, of what its call leaves
unfoldable pub text_said : Bench → Line → List ℕ → List ℕ → List ℕ
text_said b l page lent =
    let a = acted_on b l page lent in
    text_of a.saying a.bench.device (take a.bench.kept (page_on b l page lent)) (lent_on b l page lent)

-- in the buffer, where there is room for every reply
abbrev pub said_in : Bench → Gathered → List ℕ → List ℕ → List ℕ → List ℕ
said_in b line page lent out = stored_in 140000 out 0 (text_said b (meaning_of line) page lent)

abbrev pub obeyed : Bench → Gathered → List ℕ → List ℕ → List ℕ → Obeyed
obeyed b line page lent out =
    let l = meaning_of line in record { bench = (acted_on b l page lent).bench; said = ended_in 140000 out 0 (text_said b l page lent) }

-- ## A piece of input

-- after what a piece adds to the line: the line is obeyed if it has ended, else kept
unfoldable pub went_on : Run → Taken → List ℕ → List ℕ → List ℕ → Went
went_on run t page lent out =
    let o = obeyed run.bench t.line page lent out in
    cond t.whole (record { run = record { line = nothing; bench = o.bench }; at = t.at; said = o.said })
    (record { run = record { line = t.line; bench = run.bench }; at = t.at; said = 0 })

unfoldable pub page_gone : Run → Taken → List ℕ → List ℕ → List ℕ
page_gone run t page lent = cond t.whole (page_on run.bench (meaning_of t.line) page lent) page

unfoldable pub lent_gone : Run → Taken → List ℕ → List ℕ → List ℕ
lent_gone run t page lent = cond t.whole (lent_on run.bench (meaning_of t.line) page lent) lent

unfoldable pub out_gone : Run → Taken → List ℕ → List ℕ → List ℕ → List ℕ
out_gone run t page lent out = cond t.whole (said_in run.bench t.line page lent out) out
