-- What polls of a kind of task do, whichever interface the task is behind.
use Rattle.std.specs.Prelude.{ℕ, Bool, List}
use Rattle.tasks.specs.declared.poll.Poll.{Poll}

-- For a task and the post: whether the poll wakes the task itself, what it answers, and the task after it.
pub record Acts (F A : Type 0) : Type 0 where
  pub wakes : F → List ℕ → Bool
  pub answers : F → List ℕ → Poll A
  pub after : F → List ℕ → F
