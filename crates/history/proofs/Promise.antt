-- What a run keeps: the invariant holds at any start, every event keeps it, and at rest it is the promise.
use Prim.Native.Nat.{ℕ, ◌≤◌, ◌<◌}
use mathlib.Core.Bool.{Bool, true, false, cond, ◌||◌, true≢false, or-true}
use mathlib.Core.Path.{◌≡◌, refl, sym, ap, ◌∙◌}
use borrow.Author.Tests.{eqb-true, le-leb, leb-true}
use Rattle.cells.specs.Cells.{make, is_set}
use Rattle.cells.specs.Sights.{gone}
use Rattle.cells.specs.declared.Cells.{Cells}
use Rattle.cells.specs.declared.Note.TheVariants.{Empty, Full}
use Rattle.cells.specs.declared.Note.{Note}
use Rattle.cells.specs.declared.Store.TheVariants.{Nothing, NativeTo, AccessibleTo, Marked, Graded, FailedTo, Noted, NoteEmptied}
use Rattle.cells.specs.declared.Store.{Store}
use Rattle.conduct.proofs.PowerCut.{stop_keeps_cells}
use Rattle.device.specs.Machine.{rule, power_cut}
use Rattle.device.specs.Record.{health_at, see}
use Rattle.device.specs.declared.Device.{Device}
use Rattle.paper.specs.Elements.{removed_health, graded_health}
use Rattle.steps.specs.Steps.{rule_stop}
use Rattle.table.specs.Elements.{size, identifier_at}
use Rattle.history.specs.Ledger.{marked, first_address, failed_by, failed_in}
use Rattle.history.specs.Promise.{Promise, KeptByRuns}
use Rattle.history.specs.Runs.{Script, begin, ◌▸◌, empty, after, history}
use Rattle.history.specs.Starts.{fit, Begins, Startable, CutStarts}
use Rattle.history.proofs.Kept.{Held, Inv, HeldAt, held_at, wound_to, removed_marked, keep}
use Rattle.history.proofs.Places.{table_kept, gone_present, gone-place}

other : (a b : Bool) → (a || b) ≡ true → a ≡ false → b ≡ true
other true b e z = absurd (true≢false z)
other false b e z = e

-- the failed mark is no part of the invariant
failed_after : (s : Store) (c : Cells) → is_set (make s c).failed ≡ failed_by s (is_set c.failed)
failed_after Nothing c = refl
failed_after (NativeTo v) c = refl
failed_after (AccessibleTo v) c = refl
failed_after (Marked place) c = refl
failed_after (Graded place h) c = refl
failed_after (FailedTo m) c = refl
failed_after (Noted w) c = refl
failed_after NoteEmptied c = refl

module _ (start : Device) (can : Startable start) where
  -- ## The start

  first : (i : ℕ) → i < size start.table → marked start empty (identifier_at start.table i) ≡ removed_health (health_at start i)
  first i h = gone-place start.table can.ids start refl i h

  held_first : (n : Note) → Begins start n
      → Held start.table (marked start empty) 0 (first_address start n) start.cells.native.0 start.cells.accessible.0 start.position n
  held_first Empty r = (refl, r)
  held_first (Full w) r =
      record {
        there = r.0;
        aim = wound_to (gone (see start w.element)) w.new w.old;
        at = rw r.1 tt;
      }

  inv_first : Inv start empty start
  inv_first = record {
    celled = can.celled;
    same = λ i h. rw (first i h) (healthy (health_at start i) (removed_health (health_at start i)) refl);
    low = λ i h z. leb-true (health_at start i) 0xCF (other (removed_health (health_at start i)) (graded_health (health_at start i)) (can.healths i h) (sym (first i h) ∙ z));
    only = λ id. gone_present start.table start refl (record { 0 = id });
    held = held_first start.cells.note can.begins;
  }
    where
      healthy : (h : ℕ) (m : Bool) → removed_health h ≡ m → h ≡ cond m 0xFF h
      healthy h true q = eqb-true h 0xFF q
      healthy h false q = refl

  -- ## Any run

  inv : (s : Script) → Inv start (history start s) (after start s)
  inv begin = inv_first
  inv (s ▸ e) = keep start can.ids (history start s) (after start s) (table_kept start s) (inv s) e

  removed_in : (s : Script) (i : ℕ) → i < size start.table → removed_health (health_at (after start s) i) ≡ marked start (history start s) (identifier_at start.table i)
  removed_in s = removed_marked start can.ids (history start s) (after start s) (table_kept start s) (inv s)

  failed_kept : (s : Script) → is_set (after start s).cells.failed ≡ failed_in start (history start s)
  failed_kept begin = refl
  failed_kept (s ▸ e) = failed_after (rule (after start s) e).store (after start s).cells ∙ ap (failed_by (rule (after start s) e).store) (failed_kept s)

  holds : (s : Script) (n : Note) → (after start s).cells.note ≡ n → HeldAt start (history start s) (after start s) (after start s).position n
  holds s = held_at start (history start s) (after start s) (inv s)

  promised : (s : Script) → (after start s).cells.note ≡ Empty → Promise start (history start s) (after start s)
  promised s e =
      record {
        removed = rw (table_kept start s) (removed_in s);
        there = rw (table_kept start s) (inv s).only;
        native_max = (holds s Empty e).0;
        accessible_max = (holds s Empty e).1;
        table = table_kept start s;
        healths = rw (table_kept start s) (inv s).same;
      }

  -- ## After a cut

  cut_note : (s : Script) → (after start (s ▸ power_cut)).cells.note ≡ (after start s).cells.note
  cut_note s = ap (λ (c : Cells). c.note) (stop_keeps_cells (after start s)).0

  cut_begins : (s : Script) (n : Note) → (after start s).cells.note ≡ n → Begins (after start (s ▸ power_cut)) n
  cut_begins s Empty e = let r = holds (s ▸ power_cut) Empty (cut_note s ∙ e) in r.1 ∙ sym r.0
  cut_begins s (Full w) e =
      (rw (table_kept start s) (holds s (Full w) e).there, ap (λ (n : Note). (rule_stop (after start s).position 0 n).next) e)

  fit_in : (s : Script) (i : ℕ) → i < size start.table → fit (health_at (after start s) i) ≡ true
  fit_in s i h = rw ((inv s).same i h) (healthy (marked start (history start s) (identifier_at start.table i)) _ ((inv s).low i h))
    where
      healthy : (m : Bool) (g : ℕ) → (m ≡ false → g ≤ 0xCF) → fit (cond m 0xFF g) ≡ true
      healthy true g k = refl
      healthy false g k = rw (le-leb g 0xCF (k refl), or-true)

pub kept : (start : Device) → Startable start → (s : Script) → KeptByRuns start (history start s) (after start s)
kept start can s = record { at_rest = promised start can s; failed = failed_kept start can s }

pub cut_starts : CutStarts
cut_starts start can s =
    record {
      ids = rw (table_kept start s) can.ids;
      celled = rw (table_kept start s) (inv start can (s ▸ power_cut)).celled;
      healths = rw (table_kept start s) (fit_in start can (s ▸ power_cut));
      begins = cut_begins start can s (after start (s ▸ power_cut)).cells.note (sym (cut_note start can s));
    }
