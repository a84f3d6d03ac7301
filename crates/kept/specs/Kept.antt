-- docs/BENCH.md, "The kept page (empty at first)": the first `kept` bytes of the page that is lent, and what a call on it leaves.
use Rattle.std.specs.Prelude.{ℕ, ◌-◌, min, cond, List, [], ◌∷◌, eqb, leb, length, replicate}
use Rattle.arguments.specs.declared.PageCall.TheVariants as calls
use Rattle.arguments.specs.declared.PageCall.{PageCall}
use Rattle.arguments.specs.declared.Poke.{Poke}
use Rattle.slices.specs.Lists.{stored}

-- "`length LENGTH` cuts it or lengthens it with zeros"
abbrev pub lengthened : ℕ → ℕ → List ℕ → List ℕ
lengthened kept n page = stored page kept (replicate (n - kept) 0)

-- "`poke PLACE BYTE` changes a byte .. or `outside` past its end"
abbrev pub poked : ℕ → Poke → List ℕ → List ℕ
poked kept p page = cond (leb kept p.place) page (stored page p.place (p.byte ∷ []))

-- how long it then is: LENGTH, as far as there is room
abbrev pub kept_after : PageCall → ℕ → List ℕ → ℕ
kept_after (calls.Length n) kept page = min n (length page)
kept_after (calls.Poke p) kept page = kept
kept_after (calls.Read q) kept page = kept
kept_after (calls.Next q) kept page = kept
kept_after (calls.ReadScsi q) kept page = kept

-- what then stands there; "`read FEATURE COUNT LBA` runs the reader on it" and changes nothing, nor do `next FEATURE COUNT LBA` and
-- `scsiread FILTER TYPE START`
abbrev pub page_after : PageCall → ℕ → List ℕ → List ℕ
page_after (calls.Length n) kept page = lengthened kept (min n (length page)) page
page_after (calls.Poke p) kept page = poked kept p page
page_after (calls.Read q) kept page = page
page_after (calls.Next q) kept page = page
page_after (calls.ReadScsi q) kept page = page

-- how long it is with some bytes in its place, if there is room for them
abbrev pub replaced : ℕ → List ℕ → List ℕ → ℕ
replaced kept written page = cond (leb (length written) (length page)) (length written) kept

-- how long it is after an answer that wrote some bytes: "the page .. is kept", if there is one and room for it. No byte is no page
abbrev pub kept_with : ℕ → List ℕ → List ℕ → ℕ
kept_with kept written page = cond (eqb (length written) 0) kept (replaced kept written page)

-- after 0 "these bytes are kept, in the kept page's place, also where there are none"; "A refusal keeps what was kept"
abbrev pub kept_data : ℕ → ℕ → List ℕ → List ℕ → ℕ
kept_data number kept written page = cond (eqb number 0) (replaced kept written page) kept

abbrev pub page_data : ℕ → List ℕ → List ℕ → List ℕ
page_data number written page = cond (eqb number 0) (stored page 0 written) page
