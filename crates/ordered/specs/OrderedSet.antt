-- The ordered set over a bounded one, with its parking in a heap.
use Rattle.std.specs.Prelude.{ℕ, min, ◌⊎◌, List, map, length, drop, Option}
use Rattle.ordered.specs.BoundedBelow.{bounded_below}
use Rattle.ordered.specs.Deques.{DequeLaw, IndexLaw}
use Rattle.ordered.specs.Ordered.{Ordered, Pushing, Side, most_places}
use Rattle.ordered.specs.Ordered as ordered
use Rattle.runs.specs.Calls.{Step}
use Rattle.runs.specs.Promises.{Promises}
use Rattle.runs.specs.Wakers.{WakerLaws}
use Rattle.sets.specs.Bounded.{Bounded, Question, how_many}
use Rattle.sets.specs.Bounded as bounded
use Rattle.slots.specs.declared.slot.Slot.{Slot}
use Rattle.tasks.specs.Acts.{Acts}
use Rattle.tasks.specs.declared.fault.Fault.{Fault}
use Rattle.tasks.specs.declared.fault.Fault.TheVariants.{ParkingFull}
use Rattle.tasks.specs.declared.order_wrapper.OrderWrapper.{OrderWrapper}
use Rattle.wakes.specs.declared.wake_record.WakeRecord.{WakeRecord}

-- The state: a bounded set of tasks with their indices, outputs that wait, and the parking memory beyond the places.
abbrev pub Line : Type 0 → Type 0 → Type 0
Line F O = Ordered (Bounded (OrderWrapper F)) O (List (Option (OrderWrapper O)))

-- A heap has as many places as its memory, at most 65,536, and refuses by naming them.
abbrev pub places_of : {X : Type 0} → List X → ℕ
places_of memory = min (length memory) most_places

abbrev pub heap_full : ℕ → ℕ → Fault
heap_full places count = ParkingFull places

abbrev pub made : {F O : Type 0} → ℕ → List (Slot (OrderWrapper F)) → List WakeRecord → List (Option (OrderWrapper O)) → Line F O
made name slots records parking = ordered.made (bounded.made name slots records) (places_of parking) (drop (places_of parking) parking)

-- What is held: the tasks, and the outputs that wait; and their indices.
abbrev pub elements : {F O : Type 0} → Line F O → List (OrderWrapper F ⊎ OrderWrapper O)
elements s = ordered.elements bounded.elements s

abbrev pub indices : {F O : Type 0} → Line F O → List ℕ
indices s = ordered.indices (λ t. map (λ w. w.index) (bounded.elements t)) s

abbrev pub queued : {F O : Type 0} → Line F O → ℕ → ℕ
queued s a = bounded.queued s.below a

module _ {F O : Type 0} (acts : Acts F O) where
  abbrev pub step : Step (Line F O) (Pushing F) Question F O
  step = ordered.step (bounded_below acts) heap_full

  abbrev pub len : Line F O → ℕ
  len s = ordered.number (bounded_below acts) heap_full s how_many

  -- What is promised of every run of an ordered set, in any memory.
  pub record OrderedPromises (bearing : F → ℕ × ℕ) (bears : O → ℕ × ℕ) : Type 0 where
    pub promises : (name : ℕ) (slots : List (Slot (OrderWrapper F))) (records : List WakeRecord) (parking : List (Option (OrderWrapper O)))
        → Promises step (made name slots records parking) (λ p. bearing p.task) bears elements how_many
    pub wakers : (name : ℕ) (slots : List (Slot (OrderWrapper F))) (records : List WakeRecord) (parking : List (Option (OrderWrapper O)))
        → WakerLaws step (made name slots records parking) queued how_many
    pub deque : (name : ℕ) (slots : List (Slot (OrderWrapper F))) (records : List WakeRecord) (parking : List (Option (OrderWrapper O)))
        → DequeLaw step (made name slots records parking) bearing bears
    pub in_a_run : (name : ℕ) (slots : List (Slot (OrderWrapper F))) (records : List WakeRecord) (parking : List (Option (OrderWrapper O)))
        → IndexLaw step (made name slots records parking) indices len (λ s. s.incoming) (λ s. s.outgoing)
