-- What the documentation of Waker, RawWaker and Future asks of wakers, over every run.
use Rattle.std.specs.Prelude.{◌≡◌, ℕ, ◌+◌, true, ◌↔◌, List, is_ok, Some, Ok}
use Rattle.runs.specs.Calls.{Call, poll, clone, wake, wake_by_ref, drop, ask, Step, reached}
use Rattle.tasks.specs.declared.poll.Poll.TheVariants.{Ready}
use Rattle.wakes.specs.declared.waker.Waker.{Waker}

-- From a fresh set, where `queued` says how often a slot waits in the queue.
module _ {S P Q T O : Type 0} (step : Step S P Q T O) where
  pub record WakerLaws (fresh : S) (queued : S → ℕ → ℕ) (len : Q) : Type 0 where
    -- A wake is a wake by reference and then a drop: it leaves the same set and gives the same notice.
    pub wake_is_both : (calls : List (Call P Q)) (t : Waker)
        → ((step (reached step fresh calls) (wake t)).0 ≡ (step (step (reached step fresh calls) (wake_by_ref t)).0 (drop t)).0)
        × ((n : ℕ) → ((step (reached step fresh calls) (wake t)).1 ≡ Ok n) ↔ ((step (reached step fresh calls) (wake_by_ref t)).1 ≡ Ok n))
    -- A clone is equal to its original, and dropping it leaves the set as it was before the clone.
    pub clone_and_drop : (calls : List (Call P Q)) (t u : Waker) → (step (reached step fresh calls) (clone t)).1 ≡ Ok u
        → (u ≡ t)
        × (is_ok (step (step (reached step fresh calls) (clone t)).0 (drop u)).1 ≡ true)
        × ((step (step (reached step fresh calls) (clone t)).0 (drop u)).0 ≡ reached step fresh calls)
    -- A wake leaves its slot in the queue, once.
    pub woken_waits : (calls : List (Call P Q)) (t : Waker) (n : ℕ) → (step (reached step fresh calls) (wake t)).1 ≡ Ok n
        → queued (step (reached step fresh calls) (wake t)).0 t.address ≡ 1
    -- A future that is ready leaves the set, so that no later poll can come to it: one element less is held.
    pub ready_leaves : (calls : List (Call P Q)) (post : List ℕ) (x : O) → (step (reached step fresh calls) (poll post)).1.poll ≡ Ready (Some x)
        → (step (step (reached step fresh calls) (poll post)).0 (ask len)).1 + 1 ≡ (step (reached step fresh calls) (ask len)).1
