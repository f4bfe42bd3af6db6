-- What a wake list holds after its part of the memory was changed.
use Rattle.std.proofs.Common.{◌≡◌, ℕ, ◌-◌, ◌≤◌, Bool, List, length, take, drop, sym, ap, ◌∙◌, subst}
use borrow.Rule.Slice.PartMut.{put_mid}
use Rattle.lists.proofs.MemoryParts.{Put, put_part}
use Rattle.std.specs.List.{between}
use Rattle.wakes.specs.Queue.{waiting_in, Queued}
use Rattle.wakes.specs.Wakes.{Held}
use Rattle.wakes.specs.declared.queue.Queue.{Queue}
use Rattle.wakes.specs.declared.wake_record.WakeRecord.{WakeRecord}

abbrev pub held_in : List WakeRecord → ℕ → ℕ → Queue → Bool → Held
held_in xs a e q registered = record {
  before = take a xs;
  places = length (between a e xs);
  wakes = record { waiting = waiting_in (between a e xs) q; registered = registered };
  beyond = drop e xs;
}

pub record Changed (xs zs : List WakeRecord) (a e : ℕ) (q : Queue) (waiting : List ℕ) (registered : Bool) : Type 0 where
  pub held : held_in zs a e q registered ≡ record { before = take a xs; places = length (between a e xs); wakes = record { waiting = waiting; registered = registered }; beyond = drop e xs }
  pub sound : (a ≤ e) × (e ≤ length zs) × Queued (between a e zs) q

held_same : (b b' d d' : List WakeRecord) (n n' : ℕ) (w w' : List ℕ) (registered : Bool) → b ≡ b' → n ≡ n' → w ≡ w' → d ≡ d'
    → ◌≡◌ {A = Held} (record { before = b; places = n; wakes = record { waiting = w; registered = registered }; beyond = d })
    (record { before = b'; places = n'; wakes = record { waiting = w'; registered = registered }; beyond = d' })
held_same b b' d d' n n' w w' registered eb en ew ed = cc

pub change_part : (xs ys : List WakeRecord) (a e : ℕ) (q : Queue) (waiting : List ℕ) (registered : Bool) → a ≤ e → e ≤ length xs → length ys ≡ length (between a e xs)
    → waiting_in ys q ≡ waiting → Queued ys q → Changed xs (put_mid a (e - a) xs ys) a e q waiting registered
change_part xs ys a e q waiting registered ae within same way queue =
    let zs : List WakeRecord = put_mid a (e - a) xs ys in
    let put : Put xs ys zs a e = put_part xs ys a e ae within same in
    record {
      held = held_same (take a zs) (take a xs) (drop e zs) (drop e xs) (length (between a e zs)) (length (between a e xs)) (waiting_in (between a e zs) q) waiting registered
          put.before (ap length put.part ∙ same) (ap (λ rs. waiting_in rs q) put.part ∙ way) put.beyond;
      sound = (
        ae,
        subst (λ n. e ≤ n) (sym put.long) within,
        subst (λ rs. Queued rs q) (sym put.part) queue,
      );
    }
