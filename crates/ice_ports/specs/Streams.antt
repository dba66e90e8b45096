-- What contracts see of the streams, the files and the sockets of the system.
use Rattle.std.specs.Prelude.{ℕ}

-- the reader or the writer, and how many of its reads or writes failed
pub record Counted (S : Type 0) : Type 0 where
  pub stream : S
  pub failures : ℕ

-- files: how many bytes of one are read at most, and how many loads failed
pub record Disk : Type 0 where
  pub most : ℕ
  pub failures : ℕ

-- a link over a socket: how many of its reads and writes failed
pub record Wire : Type 0 where
  pub reads_failed : ℕ
  pub writes_failed : ℕ

-- a listener over a socket: where it listens, and how many accepts failed
pub record Door : Type 0 where
  pub port : ℕ
  pub failures : ℕ

-- sockets: how many connects and hang-ups, and how many listens and retires, counted a failure
pub record Sockets : Type 0 where
  pub failures : ℕ
  pub listen_failures : ℕ
