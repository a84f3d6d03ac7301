-- The calls: a law for each way out. A call's device is told by the call by value; what is put down of it is all that can have changed.
use Prim.Native.Nat.{ℕ}
use mathlib.Core.Bool.{cond}
use mathlib.Core.Path.{◌≡◌, refl, sym, ap, ◌∙◌}
use borrow.Author.Tests.{eq-eqb, ne_eqb}
use lib.Dec.{eqb}
use Rattle.cells.specs.Rulings.{Ruled}
use Rattle.conduct.proofs.EveryCall.{refusal_leaves}
use Rattle.conduct.proofs.Shapes.{still, stopping, Shape, quiet, clears, notes, winds, Grading, refuses, grades, each}
use Rattle.device.specs.Machine.{Event, command, media_error, power_cut, comreset, hardware_reset, software_reset, grade, told}
use Rattle.device.specs.Record.{carried_out}
use Rattle.device.specs.declared.Device.{Device}
use Rattle.making.specs.Making.{made_of}
use Rattle.offer.specs.declared.Offer.{Offer}
use Rattle.paper.specs.Answers.{number_of}
use Rattle.paper.specs.Told.{Told, tells, said}
use Rattle.paper.specs.declared.Answer.{Answer}
use Rattle.paper.specs.declared.ElementId.{ElementId}
use Rattle.paper.specs.declared.Registers.{Registers}
use Rattle.paper.specs.declared.Security.{Security}
use Rattle.image.specs.Calls.{told_of, made_as, made_by}
use Rattle.image.specs.Keeping.{keeps, image_of, built}
use Rattle.image.specs.Private.{with_healths, with_mark, with_note, at_position}
use Rattle.image.specs.Reading.{device_of}
use Rattle.image.specs.declared.Image.{Image}
use Rattle.image.proofs.Keeping.{graded_kept, moved_kept, kept_stays}

-- ## What each kind of call puts down

module _ (i : Image) where
  abbrev d : Device
  d = device_of i

  -- a command stores neither an address nor a health
  commanded : (r : Ruled) → Shape d still r → with_note (carried_out d r).cells.note (at_position r.next (with_mark (carried_out d r).cells.failed i)) ≡ keeps i (carried_out d r)
  unfolding keeps device_of
  commanded r (quiet n) = refl
  commanded r clears = refl
  commanded r (notes id lba seen n s) = refl

  -- an error or a cut stores nothing
  stopped : (r : Ruled) → Shape d stopping r → at_position r.next i ≡ keeps i (carried_out d r)
  stopped r (quiet n) = moved_kept i d.position
  stopped r (winds w n) = moved_kept i _

  -- a grade stores a health
  regraded : (id : ElementId) (h : ℕ) (r : Ruled) → Grading d id h r → with_healths (carried_out d r).cells.healths i ≡ keeps i (carried_out d r)
  unfolding device_of
  regraded id h r refuses = graded_kept i d.cells.healths
  regraded id h r (grades seen s g) = graded_kept i _

-- ## The ways out of a call: the device was read, the call by value made, and its number taken

module _ (i : Image) (e : Event) (d x : Device) (is_d : d ≡ device_of i) (a : Answer) (is_told : said a x ≡ told d e) (n : ℕ) (is_n : n ≡ number_of a) where
  number-told : n ≡ (told (device_of i) e).number
  number-told = is_n ∙ ap (λ (t : Told Device). t.number) is_told ∙ ap (λ (y : Device). (told y e).number) is_d

  state_told : x ≡ (told (device_of i) e).state
  state_told = ap (λ (t : Told Device). t.state) is_told ∙ ap (λ (y : Device). (told y e).state) is_d

  ends : (r : Image) → r ≡ keeps i (told (device_of i) e).state → tells n r ≡ told_of i e
  unfolding told_of
  ends r is_r = λ k. tells (number-told k) (is_r k)

  pub kept : (r : Image) → r ≡ keeps i x → tells n r ≡ told_of i e
  kept r is_r = ends r (is_r ∙ ap (keeps i) state_told)

  pub left : (n ≡ 0 → ⊥) → tells n i ≡ told_of i e
  left z = ends i (sym (kept_stays i) ∙ ap (keeps i) (sym (refusal_leaves (device_of i) e (λ q. z (number-told ∙ q)))))

  -- what holds of the device that the call leaves holds of the one that it handed back
  told_of_lem : (f : Device → Image) → f (told (device_of i) e).state ≡ keeps i (told (device_of i) e).state → (r : Image) → r ≡ f x → tells n r ≡ told_of i e
  told_of_lem f same r is_r = ends r (is_r ∙ ap f state_told ∙ same)

  pub untouched : (told (device_of i) e).state ≡ device_of i → tells n i ≡ told_of i e
  untouched same = ends i (sym (kept_stays i) ∙ ap (keeps i) (sym same))

module _ (i : Image) (d x : Device) (is_d : d ≡ device_of i) (a : Answer) (n : ℕ) (is_n : n ≡ number_of a) where
  pub error_told : said a x ≡ told d media_error → (r : Image) → r ≡ at_position x.position i → tells n r ≡ told_of i media_error
  error_told is_told = told_of_lem i media_error d x is_d a is_told n is_n (λ y. at_position y.position i) (stopped i _ (each (device_of i) media_error))

  pub cut_told : said a x ≡ told d power_cut → (r : Image) → r ≡ at_position x.position i → tells n r ≡ told_of i power_cut
  cut_told is_told = told_of_lem i power_cut d x is_d a is_told n is_n (λ y. at_position y.position i) (stopped i _ (each (device_of i) power_cut))

  pub comreset_told : said a x ≡ told d comreset → tells n i ≡ told_of i comreset
  comreset_told is_told = untouched i comreset d x is_d a is_told n is_n refl

  pub hardware_reset_told : said a x ≡ told d hardware_reset → tells n i ≡ told_of i hardware_reset
  hardware_reset_told is_told = untouched i hardware_reset d x is_d a is_told n is_n refl

  pub software_reset_told : said a x ≡ told d software_reset → tells n i ≡ told_of i software_reset
  software_reset_told is_told = untouched i software_reset d x is_d a is_told n is_n refl

  pub grade_told : (id : ElementId) (h : ℕ) → said a x ≡ told d (grade id h) → (r : Image) → r ≡ with_healths x.cells.healths i
      → tells n r ≡ told_of i (grade id h)
  grade_told id h is_told =
      told_of_lem i (grade id h) d x is_d a is_told n is_n (λ y. with_healths y.cells.healths i) (regraded i id h _ (each (device_of i) (grade id h)))

  pub command_told : (s t : Security) → s ≡ t → (g : Registers) (room : ℕ) → said a x ≡ told d (command s g room) → (m p r : Image)
      → m ≡ with_mark x.cells.failed i → p ≡ at_position x.position m → r ≡ with_note x.cells.note p → tells n r ≡ told_of i (command t g room)
  command_told s t is_s g room is_told m p r is_m is_p is_r =
      told_of_lem i (command t g room) d x is_d a (is_told ∙ ap (λ (u : Security). told d (command u g room)) is_s) n is_n
      (λ y. with_note y.cells.note (at_position y.position (with_mark y.cells.failed i))) (commanded i _ (each (device_of i) (command t g room)))
      r (is_r ∙ ap (with_note x.cells.note) (is_p ∙ ap (at_position x.position) is_m))

-- ## The making of a device

module _ (i : Image) (o : Offer) (d x : Device) (is_d : d ≡ device_of i) (a : Answer) (is_made : said a x ≡ made_of d o) (n : ℕ) (is_n : n ≡ number_of a) where
  made_as_lem : tells n (cond (eqb n 0) (image_of x) i) ≡ made_by i o
  unfolding made_by
  made_as_lem =
      ap (λ (m : ℕ). tells m (cond (eqb m 0) (image_of x) i)) is_n ∙ ap (made_as i) (is_made ∙ ap (λ (y : Device). made_of y o) is_d)

  pub made_refused : (n ≡ 0 → ⊥) → tells n i ≡ made_by i o
  made_refused z = sym (rw (ne_eqb n 0 z) refl) ∙ made_as_lem

  pub made_new : n ≡ 0 → (b r : Image) → b ≡ built x.table → r ≡ keeps b x → tells n r ≡ made_by i o
  made_new z b r is_b is_r = ap (tells n) (is_r ∙ ap (λ (c : Image). keeps c x) is_b) ∙ sym (rw (eq-eqb n 0 z) refl) ∙ made_as_lem
