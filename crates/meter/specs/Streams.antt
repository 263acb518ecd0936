-- The two streams of a meter, each seen as a receiver, and the places that they share. Assumes nothing.
use Rattle.std.specs.Prelude.{ℕ, ◌+◌, ◌-◌, Bool, cond, ◌&&◌, reverse, eqb, ltb}
use Rattle.std.proofs.Math.Option.{Option, none, some}
use Rattle.receiver.specs.declared.Places.{Places}
use Rattle.receiver.specs.declared.Receiver.{Receiver}
use Rattle.receiver.specs.Limits.{window_places}
use Rattle.meter.specs.declared.StreamState.{StreamState}
use Rattle.meter.specs.declared.Meter.{Meter}

-- stream 1 or stream 2
pub data Side : Type 0 where
  one : Side
  two : Side

-- the stream of a number, if it is 1 or 2
unfoldable pub side_of : ℕ → Option Side
side_of n = cond (eqb n 1) (some one) (cond (eqb n 2) (some two) none)

-- f of the stream, if there is one, else x
abbrev pub on_stream {ℓ} : {A : Type ℓ} → Option Side → A → (Side → A) → A
on_stream none x f = x
on_stream (some s) x f = f s

-- the neighbour of a stream
abbrev pub other : Side → Side
other one = two
other two = one

-- ---- the places

-- how many places the streams share: those of one receiver
abbrev pub shared : ℕ
shared = window_places

-- how many jumps a stream keeps at most
abbrev pub most_kept : ℕ
most_kept = 48

-- how many places are free if the streams keep `first` and `second` jumps
abbrev pub free_beside : ℕ → ℕ → ℕ
free_beside first second = shared - (first + second)

-- "a new jump takes a free place if its stream keeps fewer than 48": of a stream that keeps `kept` jumps, with `free` places free
abbrev pub takes_place : ℕ → ℕ → Bool
takes_place kept free = ltb kept most_kept && ltb 0 free

-- the places as a stream counts them: stream 1 from the first up, stream 2 from the last down
abbrev pub facing : Side → Places → Places
facing one p = p
facing two p = record { positions = reverse p.positions; numbers = reverse p.numbers; times = reverse p.times }

-- ---- a stream of a meter

-- what a stream has for itself
abbrev pub stream_of : Side → Meter → StreamState
stream_of one m = m.first
stream_of two m = m.second

-- how many jumps a stream keeps
abbrev pub kept_in : Side → Meter → ℕ
kept_in s m = (stream_of s m).stream.kept

-- how many places are free
abbrev pub free : Meter → ℕ
free m = free_beside (kept_in one m) (kept_in two m)

-- a stream as a receiver
abbrev pub receiver_of : Side → Meter → Receiver
receiver_of s m =
    record { stream = (stream_of s m).stream; marks = (stream_of s m).marks; places = facing s m.places }

-- what a receiver has beside its places
abbrev pub stream_in : Receiver → StreamState
stream_in r = record { stream = r.stream; marks = r.marks }

-- the meter with other values of a stream
abbrev pub with_stream : Side → StreamState → Meter → Meter
with_stream one t m = record { first = t; second = m.second; places = m.places }
with_stream two t m = record { first = m.first; second = t; places = m.places }

-- the meter with a stream and its places as this receiver has them
abbrev pub with_receiver : Side → Receiver → Meter → Meter
with_receiver one r m = record { first = stream_in r; second = m.second; places = r.places }
with_receiver two r m = record { first = m.first; second = stream_in r; places = facing two r.places }
