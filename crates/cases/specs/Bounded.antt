-- Worked runs of the bounded unordered set, one list, computed from the definitions.
use Rattle.std.specs.Prelude.{◌≡◌, ℕ, zero, suc, ◌+◌, Bool, true, false, List, [], ◌∷◌, ◌++◌, map, replicate, Some, None, Ok, Err, Option}
use Rattle.runs.specs.Calls.{Call, push, poll, hand, clone, wake, wake_by_ref, drop, may_end, ask, Entry, did, log}
use Rattle.sets.specs.Bounded.{Bounded, Question, how_many, how_many_can_be, made, with_out, step}
use Rattle.slots.specs.declared.slot.Slot.TheVariants.{NextFree}
use Rattle.tasks.specs.Acts.{Acts}
use Rattle.tasks.specs.Kinds.{countdown_acts, letter_acts, either_acts}
use Rattle.tasks.specs.declared.countdown.Countdown.{Countdown}
use Rattle.tasks.specs.declared.either.Either.{Either}
use Rattle.tasks.specs.declared.either.Either.TheVariants.{Left, Right}
use Rattle.tasks.specs.declared.fault.Fault.{Fault}
use Rattle.tasks.specs.declared.fault.Fault.TheVariants.{NoVacantSlot, NoSuchSlot, TooManyTokens, OtherName, NoTokenOut, TokensOut}
use Rattle.tasks.specs.declared.letter.Delivery.{Delivery}
use Rattle.tasks.specs.declared.letter.Letter.{Letter}
use Rattle.tasks.specs.declared.poll.Poll.{Poll}
use Rattle.tasks.specs.declared.poll.Poll.TheVariants.{Ready, Pending}
use Rattle.wakes.specs.declared.waker.Waker.{Waker}

-- The sets of these runs hold Countdowns and Letters side by side.
abbrev pub Task : Type 0
Task = Either Countdown Letter

abbrev pub Output : Type 0
Output = Either (ℕ × ℕ) Delivery

abbrev pub acts : Acts Task Output
acts = either_acts countdown_acts letter_acts

-- C: a Countdown of that owner and count, with or without its self flag. L: a Letter of that owner, for that place.
abbrev pub C : ℕ → ℕ → Bool → Task
C owner count self = Left (record { ticket = (owner, 0); count = count; wakes_itself = self })

abbrev pub L : ℕ → ℕ → Task
L owner place = Right (record { ticket = (owner, 0); place = place })

abbrev pub token : ℕ → ℕ → Waker
token name address = record { name = name; address = address }

abbrev pub Line : Type 0
Line = Entry Task Question Task Output

-- Lines of a run: a call, and what it answers.
abbrev pub pushed_at : Task → ℕ → Line
pushed_at task address = did (push task) (Ok address)

abbrev pub push_refused : Task → Fault → Line
push_refused task fault = did (push task) (Err (record { fault = fault; input = task }))

abbrev pub polled : List ℕ → Poll (Option Output) → ℕ → ℕ → Line
polled post p notices turns = did (poll post) (record { poll = p; notices = notices; turns = turns })

abbrev pub handed : ℕ → ℕ → Line
handed name address = did (hand address) (Ok (token name address))

abbrev pub hand_refused : ℕ → Fault → Line
hand_refused address fault = did (hand address) (Err (record { fault = fault; input = address }))

abbrev pub woke : Waker → ℕ → Line
woke t notice = did (wake t) (Ok notice)

abbrev pub woke_by_ref : Waker → ℕ → Line
woke_by_ref t notice = did (wake_by_ref t) (Ok notice)

abbrev pub wake_refused : Waker → Fault → Line
wake_refused t fault = did (wake t) (Err (record { fault = fault; input = t }))

abbrev pub drop_refused : Waker → Fault → Line
drop_refused t fault = did (drop t) (Err (record { fault = fault; input = t }))

-- n Letters of owner 1, for place 0, pushed to the addresses from i on.
abbrev pub letters : ℕ → ℕ → List Line
letters i zero = []
letters i (suc n) = pushed_at (L 1 0) i ∷ letters (i + 1) n

-- A run begins with a set of that name, in memory of these lengths that holds anything, and with that many tokens out.
pub record Case : Type 0 where
  pub name : ℕ
  pub slots : ℕ
  pub records : ℕ
  pub out : ℕ
  pub lines : List Line

abbrev pub start : Case → Bounded Task
start c =
    with_out (made c.name (replicate c.slots (NextFree 9)) (replicate c.records (record { queued = true; next = 9 }))) c.out

abbrev pub call_of : Line → Call Task Question
call_of (did c a) = c

-- Each call of the run answers what its line says.
abbrev pub Holds : Case → Type 0
Holds c = log (step acts) (start c) (map call_of c.lines) ≡ c.lines

abbrev pub AllHold : List Case → Type 0
AllHold [] = Unit {0}
AllHold (c ∷ cs) = Holds c × AllHold cs

abbrev pub case : ℕ → ℕ → ℕ → List Line → Case
case slots records out lines = record { name = 1; slots = slots; records = records; out = out; lines = lines }

-- No slot: every push is refused, and there is nothing to wait for.
abbrev pub no_slot : Case
no_slot = case 0 0 0
    (push_refused (L 1 0) (NoVacantSlot 0)
    ∷ polled [] (Ready None) 0 0
    ∷ [])

-- Two slots: the third push is refused.
abbrev pub two_slots : Case
two_slots = case 2 2 0
    (pushed_at (L 1 0) 0
    ∷ pushed_at (L 2 0) 1
    ∷ push_refused (L 3 0) (NoVacantSlot 2)
    ∷ did (ask how_many) 2
    ∷ did (ask how_many_can_be) 2
    ∷ [])

-- The lesser memory counts.
abbrev pub lesser_memory : Case
lesser_memory = case 3 1 0
    (pushed_at (L 1 0) 0
    ∷ push_refused (L 2 0) (NoVacantSlot 1)
    ∷ did (ask how_many_can_be) 1
    ∷ [])

-- Sixty Letters are all polled, and the queue is empty.
abbrev pub sixty : Case
sixty = case 61 61 0 (letters 0 60 ++ polled [] Pending 0 60 ∷ [])

-- After the 61st turn the parent gets a notice.
abbrev pub sixty_one : Case
sixty_one = case 61 61 0 (letters 0 61 ++ polled [] Pending 1 61 ∷ [])

-- Sixty-two are polled in two polls: the notice of the first kept the registration, so a wake then gives one more.
abbrev pub sixty_two : Case
sixty_two = case 62 62 0
    (letters 0 62
    ++ polled [] Pending 1 61
    ∷ handed 1 0
    ∷ woke (token 1 0) 1
    ∷ polled [] Pending 0 2
    ∷ [])

-- A wake that newly enqueues gives a notice to a registered parent, once.
abbrev pub two_wakes : Case
two_wakes = case 1 1 0
    (pushed_at (L 1 0) 0
    ∷ polled (0 ∷ []) Pending 0 1
    ∷ handed 1 0
    ∷ woke_by_ref (token 1 0) 1
    ∷ woke_by_ref (token 1 0) 0
    ∷ polled (0 ∷ []) Pending 0 1
    ∷ polled (7 ∷ []) Pending 0 0
    ∷ woke (token 1 0) 1
    ∷ polled (7 ∷ []) (Ready (Some (Right (record { ticket = (1, 0); word = 7 })))) 0 1
    ∷ did may_end (Ok tt)
    ∷ [])

-- A late token queues the slot of a future that has left. The next future in that slot is polled once, not twice.
abbrev pub reused_slot : Case
reused_slot = case 1 1 0
    (pushed_at (C 1 0 false) 0
    ∷ handed 1 0
    ∷ polled [] (Ready (Some (Left (1, 0)))) 0 1
    ∷ woke (token 1 0) 1
    ∷ pushed_at (C 2 0 false) 0
    ∷ polled [] (Ready (Some (Left (2, 0)))) 0 1
    ∷ polled [] (Ready None) 0 0
    ∷ [])

-- A future that wakes itself is polled again: its flag was cleared before its poll.
abbrev pub self_wake : Case
self_wake = case 1 1 0
    (pushed_at (C 1 2 true) 0
    ∷ polled [] (Ready (Some (Left (1, 0)))) 1 3
    ∷ [])

-- A removal makes its slot the free head: the next push takes the slot that was vacated last.
abbrev pub last_vacated : Case
last_vacated = case 3 3 0
    (pushed_at (C 1 0 false) 0
    ∷ pushed_at (C 2 0 false) 1
    ∷ polled [] (Ready (Some (Left (1, 0)))) 0 1
    ∷ polled [] (Ready (Some (Left (2, 0)))) 0 1
    ∷ pushed_at (C 3 0 false) 1
    ∷ pushed_at (C 4 0 false) 0
    ∷ pushed_at (C 5 0 false) 2
    ∷ [])

-- The refusals of the token calls, in the order of their checks.
abbrev pub refusals : Case
refusals = case 2 2 0
    (pushed_at (L 1 0) 0
    ∷ hand_refused 1 (NoSuchSlot 1)
    ∷ hand_refused 2 (NoSuchSlot 2)
    ∷ wake_refused (token 1 0) NoTokenOut
    ∷ did may_end (Ok tt)
    ∷ handed 1 0
    ∷ did may_end (Err (TokensOut 1))
    ∷ wake_refused (token 7 9) (OtherName 7)
    ∷ drop_refused (token 7 0) (OtherName 7)
    ∷ did (clone (token 1 2)) (Err (NoSuchSlot 2))
    ∷ did (wake_by_ref (token 1 2)) (Err (NoSuchSlot 2))
    ∷ did (clone (token 1 1)) (Ok (token 1 1))
    ∷ did may_end (Err (TokensOut 2))
    ∷ did (drop (token 1 1)) (Ok tt)
    ∷ woke (token 1 0) 0
    ∷ drop_refused (token 1 0) NoTokenOut
    ∷ did may_end (Ok tt)
    ∷ did (ask how_many) 1
    ∷ [])

-- With 65,535 tokens out no further one is handed out; a vacant slot is refused before that, and a bad token too.
abbrev pub most_tokens : Case
most_tokens = case 2 2 65535
    (pushed_at (L 1 0) 0
    ∷ hand_refused 0 (TooManyTokens 65535)
    ∷ hand_refused 1 (NoSuchSlot 1)
    ∷ did (clone (token 1 0)) (Err (TooManyTokens 65535))
    ∷ did (clone (token 1 5)) (Err (NoSuchSlot 5))
    ∷ did (clone (token 2 0)) (Err (OtherName 2))
    ∷ did (drop (token 1 0)) (Ok tt)
    ∷ handed 1 0
    ∷ did may_end (Err (TokensOut 65535))
    ∷ [])

abbrev pub cases : List Case
cases =
    no_slot ∷ two_slots ∷ lesser_memory ∷ sixty ∷ sixty_one ∷ sixty_two ∷ two_wakes ∷ reused_slot ∷ self_wake ∷ last_vacated
    ∷ refusals ∷ most_tokens ∷ []
