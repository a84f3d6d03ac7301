-- docs/BENCH.md, `next`: how a walk goes on after the kept page.
use Rattle.std.specs.Prelude.{ℕ, List, ◌++◌, take}
use Rattle.contents.specs.Contents.{refused_line}
use Rattle.paper.specs.declared.ElementId.{ElementId}
use Rattle.request.specs.declared.Request.{Request}
use Rattle.text.specs.Digits.{digits}
use Rattle.text.specs.Text.{ascii}
use Rattle.walk.specs.Next.{Values, ask, end, place, next_of}

-- "`ask ID` (8 upper hex digits)"
abbrev pub ask_line : ElementId → List ℕ
ask_line id = ascii "ask " ++ digits 16 8 id.0 ++ ascii "\n"

-- "`9 at PLACE` (decimal) where the reader refuses it, .. else `end`"
abbrev pub move_line : Values → List ℕ
move_line (ask id) = ask_line id
move_line end = ascii "end\n"
move_line (place p) = refused_line p

-- the kept page has at most 65,536 bytes
unfoldable pub next_text : List ℕ → Request → List ℕ
next_text page q = move_line (next_of (take 65536 page) q).state
