-- Laws of a call for a SCSI host: what it says, and what of the kept page it leaves.
use Prim.Native.Nat.{ℕ}
use mathlib.Core.List.{List}
use mathlib.Core.Path.{◌≡◌, ap, ◌∙◌}
use lib.ListN.{take}
use Rattle.arguments.specs.declared.Dock.{Dock}
use Rattle.docking.specs.Dock.{Answered, heard, number_said, count_said, answered_by, lent_by}
use Rattle.docking.specs.declared.Docked.{Docked}
use Rattle.kept.specs.Kept.{kept_data, page_data}
use Rattle.workbench.specs.Changes.{with_kept}
use Rattle.workbench.specs.declared.Bench.{Bench}
use Rattle.acts.specs.Acts.{docked, Act, act, dock_answer, dock_lent, dock_bytes, dock_page, after_dock}

pub dock_lent_lem : (b : Bench) (c : Dock) (page lent source after : List ℕ) → source ≡ take b.kept page → after ≡ lent_by b.device c source lent
    → after ≡ dock_lent b c page lent
dock_lent_lem b c page lent source after is_source is_after = is_after ∙ ap (λ (s : List ℕ). lent_by b.device c s lent) is_source

module _ (b : Bench) (c : Dock) (page lent source after part : List ℕ) (r : Docked) (m n : ℕ) (is_source : source ≡ take b.kept page)
    (is_r : heard r ≡ answered_by b.device c source lent) (is_after : after ≡ lent_by b.device c source lent) (is_m : m ≡ count_said r.said)
    (is_part : part ≡ take m after) (is_n : n ≡ number_said r.said) where
  answer : heard r ≡ dock_answer b c page lent
  answer = is_r ∙ ap (λ (s : List ℕ). answered_by b.device c s lent) is_source

  number : n ≡ (dock_answer b c page lent).number
  number = is_n ∙ ap (λ (a : Answered). a.number) answer

  bytes : part ≡ dock_bytes b c page lent
  bytes = is_part ∙ (λ i. take ((is_m ∙ ap (λ (a : Answered). a.count) answer) i) (dock_lent_lem b c page lent source after is_source is_after i))

  pub dock_page_lem : (x : List ℕ) → x ≡ page_data n part page → x ≡ dock_page b c page lent
  dock_page_lem x is_x = is_x ∙ (λ i. page_data (number i) (bytes i) page)

  pub dock_act : (k : ℕ) (x : Bench) (z : Act) → k ≡ kept_data n b.kept part page → x ≡ with_kept b k → z ≡ act x (docked (heard r)) → z ≡ after_dock b c page lent
  dock_act k x z is_k is_x is_z =
      is_z
      ∙ (λ i. act ((is_x ∙ ap (with_kept b) is_k) i) (docked (answer i)))
      ∙ (λ i. act (with_kept b (kept_data (number i) b.kept (bytes i) page)) (docked (dock_answer b c page lent)))
