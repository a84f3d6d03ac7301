-- For the promises of private functions: no reader has to believe it. A row of what is open during a removal (src/lib.rt): a code, and for
-- FEATURE and LBA a mask and what it must leave. A mask of 0 takes any form, one of FFh looks at bits 7:0, one of FFF_FFFFh at bits 27:0.
-- What is open, in the documents' words, is `is_open` (specs/Open).
use Rattle.std.specs.Prelude.{ℕ, Bool, ◌&&◌, List, eqb}
use Rattle.std.specs.Int.Bits.{bit_and}
use Rattle.std.specs.List.{list_any}
use Rattle.open.specs.declared.Row.{Row}

unfoldable pub leaves : ℕ → ℕ → ℕ → Bool
leaves mask value x = eqb (bit_and x mask) value

abbrev pub row_fits : Row → ℕ → ℕ → ℕ → Bool
row_fits r code feature lba = eqb code r.code && (leaves r.feature_mask r.feature feature && leaves r.lba_mask r.lba lba)

unfoldable pub any_fits : List Row → ℕ → ℕ → ℕ → Bool
any_fits rows code feature lba = list_any (λ (r : Row). row_fits r code feature lba) rows
