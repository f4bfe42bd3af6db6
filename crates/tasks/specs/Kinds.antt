-- What a poll of each kind of task does: a function of the task and the post.
use Rattle.std.specs.Prelude.{ℕ, ◌+◌, ◌-◌, ◌^◌, Bool, false, cond, not, ◌&&◌, ◌||◌, List, Some, None, Option, ◌==◌, nat_lt, slice_index}
use Rattle.tasks.specs.Acts.{Acts}
use Rattle.tasks.specs.declared.poll.Poll.{Poll}
use Rattle.tasks.specs.declared.poll.Poll.TheVariants.{Ready, Pending}
use Rattle.tasks.specs.declared.countdown.Countdown.{Countdown}
use Rattle.tasks.specs.declared.either.Either.{Either}
use Rattle.tasks.specs.declared.either.Either.TheVariants.{Left, Right}
use Rattle.tasks.specs.declared.letter.Delivery.{Delivery}
use Rattle.tasks.specs.declared.letter.Letter.{Letter}
use Rattle.tasks.specs.declared.mailbag.Mailbag.{Mailbag}
use Rattle.tasks.specs.declared.order_wrapper.OrderWrapper.{OrderWrapper}
use Rattle.tasks.specs.declared.ticker.Ticker.{Ticker}

-- A kind of task that never wakes itself.
abbrev pub never_wakes : {T : Type 0} → T → List ℕ → Bool
never_wakes task post = false

-- The word at a place of the post: 0 says that nothing is there yet, and so does a post that is too short.
abbrev pub word_at : List ℕ → ℕ → ℕ
word_at post place = slice_index post place

-- A Countdown is ready at count 0. Otherwise it lowers the count and is pending, and it wakes itself
-- exactly if its flag is set.
abbrev pub countdown_wakes : Countdown → List ℕ → Bool
countdown_wakes c post = cond (c.count == 0) false c.wakes_itself

abbrev pub countdown_answers : Countdown → List ℕ → Poll (ℕ × ℕ)
countdown_answers c post = cond (c.count == 0) (Ready c.ticket) Pending

abbrev pub countdown_after : Countdown → List ℕ → Countdown
countdown_after c post = record { ticket = c.ticket; count = c.count - 1; wakes_itself = c.wakes_itself }

abbrev pub countdown_acts : Acts Countdown (ℕ × ℕ)
countdown_acts = record { wakes = countdown_wakes; answers = countdown_answers; after = countdown_after }

-- A Letter is ready with the word at its place, once there is one.
abbrev pub letter_answers : Letter → List ℕ → Poll Delivery
letter_answers l post =
    cond (word_at post l.place == 0) Pending
    (Ready (record { ticket = l.ticket; word = word_at post l.place }))

abbrev pub letter_after : Letter → List ℕ → Letter
letter_after l post = l

abbrev pub letter_acts : Acts Letter Delivery
letter_acts = record { wakes = never_wakes; answers = letter_answers; after = letter_after }

-- An OrderWrapper does what its future does, and puts its index onto the output.
abbrev pub wrapped_answers : {O : Type 0} → ℕ → Poll O → Poll (OrderWrapper O)
wrapped_answers index (Ready x) = Ready (record { «data» = x; index = index })
wrapped_answers index Pending = Pending

abbrev pub with_data : {F : Type 0} → OrderWrapper F → F → OrderWrapper F
with_data w f = record { «data» = f; index = w.index }

abbrev pub wrapped_acts : {F O : Type 0} → Acts F O → Acts (OrderWrapper F) (OrderWrapper O)
wrapped_acts acts = record {
  wakes = λ w post. acts.wakes w.«data» post;
  answers = λ w post. wrapped_answers w.index (acts.answers w.«data» post);
  after = λ w post. with_data w (acts.after w.«data» post);
}

-- A stream's ticket is its owner and its next number; an item raises the number by one.
abbrev pub raised : ℕ × ℕ → ℕ × ℕ
raised t = (t.0, t.1 + 1)

-- At its last number a stream ends.
abbrev pub last_number : ℕ
last_number = 2 ^ 32 - 1

-- A Ticker gives a bare ticket while its next number is below the number of its items.
abbrev pub ticker_ends : Ticker → Bool
ticker_ends t = not (nat_lt t.next t.items) || t.next == last_number

abbrev pub ticker_answers : Ticker → List ℕ → Poll (Option (ℕ × ℕ))
ticker_answers t post = cond (ticker_ends t) (Ready None) (Ready (Some (t.owner, t.next)))

abbrev pub ticker_after : Ticker → List ℕ → Ticker
ticker_after t post =
    record { owner = t.owner; next = cond (ticker_ends t) t.next (t.next + 1); items = t.items }

abbrev pub ticker_acts : Acts Ticker (Option (ℕ × ℕ))
ticker_acts = record { wakes = never_wakes; answers = ticker_answers; after = ticker_after }

-- A Mailbag gives the word at its place and moves on by one. A word of all ones ends it.
abbrev pub end_mark : ℕ
end_mark = 2 ^ 64 - 1

abbrev pub mailbag_gives : Mailbag → List ℕ → Bool
mailbag_gives m post =
    not (m.next == last_number)
    && (not (word_at post m.place == 0) && not (word_at post m.place == end_mark))

abbrev pub mailbag_answers : Mailbag → List ℕ → Poll (Option Delivery)
mailbag_answers m post =
    cond (m.next == last_number) (Ready None)
    (cond (word_at post m.place == 0) Pending
    (cond (word_at post m.place == end_mark) (Ready None)
    (Ready (Some (record { ticket = (m.owner, m.next); word = word_at post m.place })))))

abbrev pub mailbag_after : Mailbag → List ℕ → Mailbag
mailbag_after m post =
    record {
      owner = m.owner;
      next = cond (mailbag_gives m post) (m.next + 1) m.next;
      place = cond (mailbag_gives m post) (m.place + 1) m.place;
    }

abbrev pub mailbag_acts : Acts Mailbag (Option Delivery)
mailbag_acts = record { wakes = never_wakes; answers = mailbag_answers; after = mailbag_after }

-- An Either does what the task in it does.
abbrev pub either_ticket : {A B : Type 0} → (A → ℕ × ℕ) → (B → ℕ × ℕ) → Either A B → ℕ × ℕ
either_ticket a b (Left x) = a x
either_ticket a b (Right y) = b y

abbrev pub left_poll : {A B : Type 0} → Poll A → Poll (Either A B)
left_poll (Ready x) = Ready (Left x)
left_poll Pending = Pending

abbrev pub right_poll : {A B : Type 0} → Poll B → Poll (Either A B)
right_poll (Ready y) = Ready (Right y)
right_poll Pending = Pending

module _ {F G O P : Type 0} (f : Acts F O) (g : Acts G P) where
  abbrev pub either_wakes : Either F G → List ℕ → Bool
  either_wakes (Left x) post = f.wakes x post
  either_wakes (Right y) post = g.wakes y post

  abbrev pub either_answers : Either F G → List ℕ → Poll (Either O P)
  either_answers (Left x) post = left_poll (f.answers x post)
  either_answers (Right y) post = right_poll (g.answers y post)

  abbrev pub either_after : Either F G → List ℕ → Either F G
  either_after (Left x) post = Left (f.after x post)
  either_after (Right y) post = Right (g.after y post)

  abbrev pub either_acts : Acts (Either F G) (Either O P)
  either_acts = record { wakes = either_wakes; answers = either_answers; after = either_after }
