-- docs/BENCH.md: the security state that a word names, and FEATURE, COUNT and LBA.
use Rattle.std.specs.Prelude.{ℕ, ◌+◌, cond, ◌&&◌, List, Option, Some, None, is_some, unwrap_or, Result, Ok, Err}
use Rattle.std.specs.Str.{bytes_eq}
use Rattle.lines.specs.Numbers.{field_at, ◌>>=◌}
use Rattle.paper.specs.declared.Security.TheVariants.{Locked, Unlocked, Frozen}
use Rattle.paper.specs.declared.Security.{Security}
use Rattle.request.specs.declared.Request.{Request}
use Rattle.text.specs.Text.{ascii}

-- "FEATURE, COUNT and LIMIT 16 bits, LBA and BLOCKS 64"
abbrev pub most64 : ℕ
most64 = 0xFFFF_FFFF_FFFF_FFFF

abbrev pub most16 : ℕ
most16 = 0xFFFF

-- "STATE is `locked`, `unlocked` or `frozen`"
unfoldable pub state_of : List ℕ → Option Security
state_of w =
    cond (bytes_eq w (ascii "locked")) (Some Locked)
    (cond (bytes_eq w (ascii "unlocked")) (Some Unlocked)
    (cond (bytes_eq w (ascii "frozen")) (Some Frozen)
    None))

-- FEATURE COUNT LBA, from word k on, 0 for one that does not fit its field
abbrev pub fields_at : List ℕ → ℕ → Request
fields_at l k =
    record {
      feature = unwrap_or (field_at l k most16) 0;
      count = record { 0 = unwrap_or (field_at l (k + 1) most16) 0 };
      lba = record { 0 = unwrap_or (field_at l (k + 2) most64) 0 };
    }

-- and whether each fits
unfoldable pub fitted_at : List ℕ → ℕ → Result Request Request
fitted_at l k =
    cond (is_some (field_at l k most16) && (is_some (field_at l (k + 1) most16) && is_some (field_at l (k + 2) most64)))
    (Ok (fields_at l k)) (Err (fields_at l k))

-- if each fits
unfoldable pub asked_at : List ℕ → ℕ → Option Request
asked_at l k = do
  feature ← field_at l k most16
  count ← field_at l (k + 1) most16
  lba ← field_at l (k + 2) most64
  Some (record { feature = feature; count = record { 0 = count }; lba = record { 0 = lba } })
