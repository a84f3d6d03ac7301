-- Laws of the calls: one for each way out of a function.
use Prim.Native.Nat.{ℕ, ◌≤◌, ◌<◌}
use mathlib.Core.Bool.{Bool, true, false}
use mathlib.Core.List.{List}
use mathlib.Core.Path.{◌≡◌, sym, ap, ◌∙◌}
use lib.ListN.{take}
use borrow.Author.Tests.{le-leb, lt-leb}
use Rattle.arguments.specs.declared.Bare.{Bare}
use Rattle.arguments.specs.declared.Command.{Command}
use Rattle.arguments.specs.declared.Grade.{Grade}
use Rattle.arguments.specs.declared.Line.TheVariants as lines
use Rattle.arguments.specs.declared.Line.{Line}
use Rattle.arguments.specs.declared.PageCall.{PageCall}
use Rattle.arguments.specs.declared.Poke.{Poke}
use Rattle.device.specs.Machine.{told}
use Rattle.device.specs.declared.Device.{Device}
use Rattle.device.specs.declared.Stepped.{Stepped}
use Rattle.events.specs.Events.{bare_event, grade_event}
use Rattle.front.specs.Front.{Fronted, left, left_after, lent_after}
use Rattle.front.specs.declared.Left.{Left}
use Rattle.kept.specs.Kept.{kept_after, kept_with}
use Rattle.making.specs.Making.{made_of}
use Rattle.offer.specs.declared.Element.{Element}
use Rattle.offer.specs.declared.Offer.{Offer}
use Rattle.paper.specs.Answers.{number_of}
use Rattle.paper.specs.Told.{said}
use Rattle.paper.specs.declared.Answer.{Answer}
use Rattle.slices.specs.Lists.{stored}
use Rattle.workbench.specs.Changes.{offering, with_record, with_device, with_kept, after_making}
use Rattle.workbench.specs.declared.Bench.{Bench}
use Rattle.acts.specs.Acts.{Saying, nothing, no_device, outside, answered, commanded, Act, act, after_event, after_offer, written, kept_page, after_command, poke_saying, page_saying, after_page, act_of, page_of, lent_of, lacks_device, acted_on, page_on, lent_on}

-- ## The device

module _ (b x : Bench) (z : Act) where
  pub event_act : (a : Answer) (e : Device) → x ≡ with_device b e → z ≡ act x (answered (number_of a)) → z ≡ after_event b (said a e)
  event_act a e is_x is_z = is_z ∙ ap (λ (y : Bench). act y (answered (number_of a))) is_x

  pub offer_act : (limit : ℕ) (o : Offer) (s : Stepped) → o ≡ offering b limit → said s.answer s.device ≡ made_of b.device o → x ≡ after_making b s
      → z ≡ act x (answered (number_of s.answer)) → z ≡ after_offer b (made_of b.device (offering b limit))
  offer_act limit o s is_o so is_x is_z =
      is_z ∙ ap (λ (y : Bench). act y (answered (number_of s.answer))) is_x ∙ ap (after_offer b) (so ∙ ap (made_of b.device) is_o)

-- ## The front call

module _ (b : Bench) (c : Command) (lent after part : List ℕ) (l : Left) (is_l : left l ≡ left_after b.device c lent)
    (is_after : after ≡ lent_after b.device c lent) (is_part : part ≡ take l.count after) where
  is_written : part ≡ written b c lent
  is_written = is_part ∙ (λ i. take (is_l i).count (is_after i))

  pub command_page : (page x : List ℕ) → x ≡ stored page 0 part → x ≡ kept_page b c page lent
  command_page page x is_x = is_x ∙ ap (stored page 0) is_written

  pub command_act : (page : List ℕ) (k : ℕ) (x y : Bench) (z : Act) → k ≡ kept_with b.kept part page → x ≡ with_device b l.device → y ≡ with_kept x k
      → z ≡ act y (commanded (number_of l.answer) l.room l.count) → z ≡ after_command b c page lent
  command_act page k x y z is_k is_x is_y is_z =
      let kept : k ≡ kept_with b.kept (written b c lent) page = is_k ∙ ap (λ (w : List ℕ). kept_with b.kept w page) is_written in
      let bench : y ≡ with_kept (with_device b l.device) (kept_with b.kept (written b c lent) page) = is_y ∙ (λ i. with_kept (is_x i) (kept i)) in
      is_z ∙ ap (λ (v : Bench). act v (commanded (number_of l.answer) l.room l.count)) bench
      ∙ ap (λ (f : Fronted). act (with_kept (with_device b f.told.state) (kept_with b.kept (written b c lent) page)) (commanded f.told.number f.room f.count)) is_l

-- ## The kept page

module _ (p : Poke) (kept : ℕ) where
  pub poke_outside : kept ≤ p.place → outside ≡ poke_saying p kept
  poke_outside h = sym (rw (le-leb kept p.place h))

  pub poke_inside : p.place < kept → nothing ≡ poke_saying p kept
  poke_inside h = sym (rw (lt-leb kept p.place h))

-- a call, by what it was found to be
pub at_call : (c d : PageCall) (kept n : ℕ) (s : Saying) → c ≡ d → s ≡ page_saying d kept n → s ≡ page_saying c kept n
at_call c d kept n s e is_s = is_s ∙ sym (rw e)

pub page_act : (b x : Bench) (c : PageCall) (page : List ℕ) (k : ℕ) (s : Saying) (z : Act) → k ≡ kept_after c b.kept page → x ≡ with_kept b k
    → s ≡ page_saying c b.kept k → z ≡ act x s → z ≡ after_page b c page
page_act b x c page k s z is_k is_x is_s is_z =
    is_z ∙ (λ i. act (is_x i) (is_s i)) ∙ ap (λ (n : ℕ). act (with_kept b n) (page_saying c b.kept n)) is_k

-- ## A line

-- by what it was found to be
module _ (b : Bench) (l m : Line) (e : l ≡ m) (page lent : List ℕ) where
  pub at_act : (z : Act) → z ≡ act_of b m page lent → z ≡ act_of b l page lent
  at_act z is_z = is_z ∙ sym (rw e)

  pub at_page : (x : List ℕ) → x ≡ page_of b m page lent → x ≡ page_of b l page lent
  at_page x is_x = is_x ∙ sym (rw e)

  pub at_lent : (x : List ℕ) → x ≡ lent_of b m page lent → x ≡ lent_of b l page lent
  at_lent x is_x = is_x ∙ sym (rw e)

module _ (b : Bench) (l : Line) (page lent : List ℕ) (z : Act) where
  pub element-act : (e : Element) (x : Bench) → l ≡ lines.Element e → x ≡ with_record b e → z ≡ act x nothing → z ≡ act_of b l page lent
  element-act e x is_l is_x is_z = at_act b l (lines.Element e) is_l page lent z (is_z ∙ ap (λ (y : Bench). act y nothing) is_x)

  pub bare_act : (e : Bare) (a : Answer) (d : Device) → l ≡ lines.Bare e → said a d ≡ told b.device (bare_event e) → z ≡ after_event b (said a d)
      → z ≡ act_of b l page lent
  bare_act e a d is_l so is_z = at_act b l (lines.Bare e) is_l page lent z (is_z ∙ ap (after_event b) so)

  pub grade_act : (g : Grade) (a : Answer) (d : Device) → l ≡ lines.Grade g → said a d ≡ told b.device (grade_event g) → z ≡ after_event b (said a d)
      → z ≡ act_of b l page lent
  grade_act g a d is_l so is_z = at_act b l (lines.Grade g) is_l page lent z (is_z ∙ ap (after_event b) so)

-- ## "Before the first device"

module _ (b : Bench) (l : Line) (page lent : List ℕ) (t : Bool) (is_t : t ≡ lacks_device b.made l) where
  module _ (e : t ≡ true) where
    lacks : lacks_device b.made l ≡ true
    lacks = sym is_t ∙ e

    pub lacking_act : (z : Act) → z ≡ act b no_device → z ≡ acted_on b l page lent
    unfolding acted_on
    lacking_act z is_z = is_z ∙ sym (rw lacks)

    pub lacking_page : page ≡ page_on b l page lent
    unfolding page_on
    lacking_page = sym (rw lacks)

    pub lacking_lent : lent ≡ lent_on b l page lent
    unfolding lent_on
    lacking_lent = sym (rw lacks)

  module _ (e : t ≡ false) where
    there : lacks_device b.made l ≡ false
    there = sym is_t ∙ e

    pub having_act : (z : Act) → z ≡ act_of b l page lent → z ≡ acted_on b l page lent
    unfolding acted_on
    having_act z is_z = is_z ∙ sym (rw there)

    pub having_page : (x : List ℕ) → x ≡ page_of b l page lent → x ≡ page_on b l page lent
    unfolding page_on
    having_page x is_x = is_x ∙ sym (rw there)

    pub having_lent : (x : List ℕ) → x ≡ lent_of b l page lent → x ≡ lent_on b l page lent
    unfolding lent_on
    having_lent x is_x = is_x ∙ sym (rw there)
