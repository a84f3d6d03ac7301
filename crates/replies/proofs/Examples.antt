-- Answers with and without a sense, and a front call's text, computed from the definitions.
use mathlib.Core.List.{◌∷◌, ◌++◌}
use mathlib.Core.Path.{◌≡◌, refl}
use lib.ListN.{replicate}
use Rattle.dump.specs.Dump.{rows_below, rows_shown, page_text, touched_text}
use Rattle.text.specs.Text.{ascii}
use Rattle.replies.specs.Replies.{answer_line, lent_text}

pub answers : (answer_line 0 ≡ ascii "0 0/00/00\n") × (answer_line 2 ≡ ascii "2 2/04/24\n") × (answer_line 3 ≡ ascii "3 3/31/04\n")
    × (answer_line 7 ≡ ascii "7\n") × (answer_line 10 ≡ ascii "10\n")
unfolding answer_line
answers = (refl, refl, refl, refl, refl)

-- 32 bytes written of 64 that were lent
pub written : lent_text 0 64 32 ((1 ∷ replicate 31 0) ++ replicate 32 0xA5)
    ≡ ascii "0 0/00/00\n0100000000000000000000000000000000000000000000000000000000000000\n"
unfolding answer_line lent_text page_text rows_below rows_shown touched_text
written = refl
