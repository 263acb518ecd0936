-- A log of the form is read as its arrivals: by induction over the form its first line is the first of the lines and decodes to the
-- arrival (`form-decoded`, `form-arrivals`), and no line is refused where no arrival is (`form-judged`); with Accepted.antt, a log is not
-- refused exactly if it has the form of arrivals that are not refused (`exact-log`). A written log has the form: digits of a number, by
-- induction over them, three decimals, a time, a line, then lines in turn (`log-form`). So what is written reads back (`read_again`):
-- without a refusal the log stands at the start, and there is room for its arrivals. Here k is K, l are arrivals and a is one, rest those
-- after it, n a number, t a time, d a digit's value. In `read_again` w and r say what was written and read, out, numbers₀ and times₀ are
-- the caller's buffer and lists before the call, with ' after it. Assumes nothing.
use Prim.Native.Nat.{ℕ, ◌+◌, ◌*◌, ◌/◌, ◌%◌, ◌^◌, ◌≤◌, ◌<◌}
use native.Mathlib.Nat.{add-zero, zero-add}
use native.Mathlib.Omega.{arith}
use mathlib.Core.Path.{◌≡◌, refl, sym, ap, ◌∙◌, subst}
use mathlib.Core.List.{List, [], ◌∷◌, ◌++◌, map, append_assoc}
use lib.ListN.{length, take, length-map}
use Rattle.octets.specs.Memory.{over}
use Rattle.octets.specs.Below.{Below}
use Rattle.octets.specs.Text.{line_feed, lines}
use Rattle.octets.proofs.Below.{below-tail}
use Rattle.decimal.specs.Decimal.{decimal_of, decimal_value}
use Rattle.decimal.proofs.Laws.{by-tens, one-digit, more-digits, reads-back}
use Rattle.rfc4737.specs.declared.Arrival.{Arrival}
use Rattle.rfc4737.specs.Judge.{arrivals_most, numbers_of, times_of, arrivals_from, judge, refusal_of_lists}
use Rattle.rfc4737.specs.Times.{next_reference}
use Rattle.rfc4737.proofs.Judged.{judge-split, one_split, ListsFit, lists-fit}
use Rattle.rfc4737.proofs.Pairs.{arrivals-length, numbers-back, times-back, arrivals-back}
use Rattle.sample.specs.Format.{item_octets}
use Rattle.sample.proofs.Output.{own-none, output-read}
use Rattle.sample.specs.Output.{if_none}
use Rattle.textlog.specs.Form.{semicolon, comma, number_most, Digits, one, more, by_comma, thousandths, three_digits, Time, parted, Line, line, Log, none, after, arrival_line, log_of}
use Rattle.textlog.specs.Decode.{DecodedLine, arrived, decode_line, decoded_lines, arrivals_of_lines, log_arrivals, unless, judge_lines, judge_decoded, judge_log}
use Rattle.textlog.specs.declared.LogJudgement.{LogJudgement}
use Rattle.textlog.specs.Calls.{import_refusal}
use Rattle.textlog.specs.RoundTrip.{ExactLog, LogReadAgain}
use Rattle.textlog.proofs.Lines.{decodes, line_first}
use Rattle.textlog.proofs.Judging.{judge-passed}
use Rattle.textlog.proofs.Accepted.{accepted-form, accepted-lists}
use Rattle.textlog.proofs.Answers.{import-fits}

-- ---- a log of the form is read as its arrivals

-- its decoded lines
pub form-decoded : {log : List ℕ} {l : List Arrival} → Log log l → decoded_lines log ≡ map arrived l
unfolding lines
form-decoded none = refl
form-decoded (after {l} {log} {a} {rest} f g) =
    ap (map decode_line) (line_first f.form log)
    ∙ ap (λ (d : DecodedLine). d ∷ decoded_lines log) (decodes l a f)
    ∙ ap (λ (ds : List DecodedLine). arrived a ∷ ds) (form-decoded g)

-- the arrivals of decoded lines, each of which is one
pub arrived-back : (l : List Arrival) → arrivals_of_lines (map arrived l) ≡ l
unfolding arrivals_of_lines
arrived-back [] = refl
arrived-back (a ∷ l) = ap (λ (y : List Arrival). a ∷ y) (arrived-back l)

-- its arrivals
form-arrivals : {log : List ℕ} {l : List Arrival} → Log log l → log_arrivals log ≡ l
form-arrivals {log} {l} g = ap arrivals_of_lines (form-decoded g) ∙ arrived-back l

-- where no arrival is refused, no line is
form-judged : (k count reference : ℕ) (l : List Arrival) → judge k reference l ≡ 0 → count + length l ≤ arrivals_most
    → judge_lines k count reference (map arrived l) ≡ record { refusal = 0; arrivals = count + length l; line = 0 }
unfolding judge_lines
form-judged k count reference [] j few = ap (λ (n : ℕ). record { refusal = 0; arrivals = n; line = 0 }) (sym (add-zero count))
form-judged k count reference (a ∷ rest) j few =
    let s = judge-split k reference a rest j in
    let n : count + 1 + length rest ≡ count + length (a ∷ rest) = omega arith in
    judge-passed k count reference (map arrived rest) a (omega arith) s.0
    ∙ form-judged k (count + 1) (next_reference reference a.time) rest s.1 (omega arith)
    ∙ ap (λ (n : ℕ). record { refusal = 0; arrivals = n; line = 0 }) n

-- so the log is not refused where its arrivals, as lists, are not
form-read : (k : ℕ) {log : List ℕ} {l : List Arrival} → Log log l → judge k 0 l ≡ 0 → ListsFit k (numbers_of l) (times_of l)
    → judge_log k log ≡ record { refusal = 0; arrivals = length l; line = 0 }
unfolding judge_decoded
form-read k {log} {l} g j f =
    let n : length (numbers_of l) ≡ length l = length-map l _ in
    ap (λ (x : ℕ). unless x 0 (judge_lines k 0 0 (decoded_lines log))) f.sent
    ∙ ap (judge_lines k 0 0) (form-decoded g)
    ∙ form-judged k 0 0 l j (omega (arith, f.few))
    ∙ ap (λ (n : ℕ). record { refusal = 0; arrivals = n; line = 0 }) (zero-add (length l))

-- a log is not refused exactly if it has the form of arrivals of which nothing is refused
pub exact-log : (k : ℕ) (log : List ℕ) → ExactLog k log
exact-log k log l = (there, back)
  where
    there : ((judge_log k log).refusal ≡ 0) × (log_arrivals log ≡ l) → Log log l × (refusal_of_lists k (numbers_of l) (times_of l) ≡ 0)
    there h = (
      subst (λ (x : List Arrival). Log log x) h.1 (accepted-form k log h.0),
      subst (λ (x : List Arrival). refusal_of_lists k (numbers_of x) (times_of x) ≡ 0) h.1 (accepted-lists k (decoded_lines log) h.0),
    )

    back : Log log l × (refusal_of_lists k (numbers_of l) (times_of l) ≡ 0) → ((judge_log k log).refusal ≡ 0) × (log_arrivals log ≡ l)
    back h =
        let f = lists-fit k (numbers_of l) (times_of l) h.1 in
        let j : judge k 0 l ≡ 0 = ap (judge k 0) (sym (arrivals-back l)) ∙ f.judged in
        (ap (λ (y : LogJudgement). y.refusal) (form-read k h.0 j f), form-arrivals h.0)

-- ---- a written log has the form

digits_append : {a b : List ℕ} → Digits a → Digits b → Digits (a ++ b)
digits_append (one h k) d = more h k d
digits_append (more h k c) d = more h k (digits_append c d)

-- one digit by its value, and one before others
last-digit : (d : ℕ) → d ≤ 9 → Digits ((48 + d) ∷ [])
last-digit d h = one {o = 48 + d} (omega arith) (omega arith)

next-digit : (d : ℕ) {ds : List ℕ} → d ≤ 9 → Digits ds → Digits ((48 + d) ∷ ds)
next-digit d h ds = more {o = 48 + d} (omega arith) (omega arith) ds

-- a number in decimal
digits_of : (n : ℕ) → Digits (decimal_of n)
digits_of =
    by-tens (λ (n : ℕ). Digits (decimal_of n)) (λ n h. rw (one-digit n h) (last-digit n (omega arith)))
    (λ n h d. rw (more-digits n h) (digits_append d (last-digit (n % 10) (omega arith))))

-- three decimals
three-digits : (n : ℕ) → n < 1000 → (Digits (three_digits n)) × (thousandths (three_digits n) ≡ n)
unfolding decimal_value
three-digits n h =
    (next-digit (n / 100) (omega arith) (next-digit (n / 10 % 10) (omega arith) (last-digit (n % 10) (omega arith))), omega arith)

-- a written time
time-form : (t : ℕ) → Time (decimal_of (t / 1000) ++ (comma ∷ three_digits (t % 1000))) t
time-form t =
    let d = three-digits (t % 1000) (omega arith) in
    let v : 1000 * decimal_value (decimal_of (t / 1000)) + thousandths (three_digits (t % 1000)) ≡ t =
    omega (arith, reads-back (t / 1000), d.1) in
    subst (λ (x : ℕ). Time (decimal_of (t / 1000) ++ (comma ∷ three_digits (t % 1000))) x) v
    (parted (digits_of (t / 1000)) by_comma d.0 (omega arith))

-- a written line
line-form : (a : Arrival) → Line (arrival_line a) a.number a.time
unfolding arrival_line
line-form a =
    let e : (decimal_of (a.time / 1000) ++ (comma ∷ three_digits (a.time % 1000))) ++ (line_feed ∷ [])
    ≡ decimal_of (a.time / 1000) ++ (comma ∷ (three_digits (a.time % 1000) ++ (line_feed ∷ []))) =
    append_assoc (decimal_of (a.time / 1000)) (comma ∷ three_digits (a.time % 1000)) (line_feed ∷ []) in
    subst (λ (x : List ℕ). Line (decimal_of a.number ++ (semicolon ∷ x)) a.number a.time) e
    (subst (λ (x : ℕ). Line (decimal_of a.number
    ++ (semicolon
    ∷ ((decimal_of (a.time / 1000) ++ (comma ∷ three_digits (a.time % 1000)))
    ++ (line_feed ∷ [])))) x a.time) (reads-back a.number) (line (digits_of a.number) (time-form a.time)))

-- a written log, of arrivals that are not refused
log-form : (k reference : ℕ) (l : List Arrival) → k ≤ number_most → judge k reference l ≡ 0 → Below (2 ^ 64) (times_of l) → Log (log_of l) l
unfolding item_octets
log-form k reference [] h j b = none
log-form k reference (a ∷ l) h j b =
    let s = judge-split k reference a l j in
    let o = one_split k reference a s.0 in
    after (record { form = line-form a; number = omega (arith, o.0.1); time = omega (arith, b 0) })
    (log-form k (next_reference reference a.time) l h s.1 (below-tail (2 ^ 64) a.time (times_of l) b))

-- ---- what is written reads back

pub read_again : (k : ℕ) (numbers times : List ℕ) → Below (2 ^ 64) times → LogReadAgain k numbers times
read_again k numbers times b out out' numbers₀ times₀ numbers' times' written read w z rn rt r =
    let f = lists-fit k numbers times (own-none (refusal_of_lists k numbers times) (log_of (arrivals_from numbers times)) out w z) in
    let t = output-read (refusal_of_lists k numbers times) (log_of (arrivals_from numbers times)) out w z in
    let g = log-form k 0 (arrivals_from numbers times) (omega (arith, f.most)) f.judged (rw (times-back numbers times f.same) b) in
    let fn : ListsFit k (numbers_of (arrivals_from numbers times)) (times_of (arrivals_from numbers times)) =
    rw (numbers-back numbers times f.same, times-back numbers times f.same) f in
    let l = arrivals-length numbers times f.same in
    let j = form-read k g f.judged fn in
    let m : length (log_arrivals (log_of (arrivals_from numbers times))) ≡ length numbers = ap length (form-arrivals g) ∙ l in
    let y : read.refusal ≡ 0 =
    r.refusal
    ∙ ap (λ (x : List ℕ). import_refusal k (length numbers₀) (length times₀) (decoded_lines x)) t
    ∙ import-fits k (length numbers₀) (length times₀) (decoded_lines (log_of (arrivals_from numbers times)))
    (ap (λ (x : LogJudgement). x.refusal) j) (omega arith) (omega (arith, f.same)) in
    let a : log_arrivals (take written.length out') ≡ arrivals_from numbers times = ap log_arrivals t ∙ form-arrivals g in
    let n = r.arrivals ∙ ap (λ (x : ℕ). if_none x (length (log_arrivals (take written.length out'))) 0) y ∙ ap length a ∙ l in (
      (λ i. record { refusal = y i; arrivals = n i }),
      r.filled_numbers ∙ ap (λ (x : ℕ). if_none x (over (numbers_of (log_arrivals (take written.length out'))) numbers₀) numbers₀) y
          ∙ ap (λ (x : List Arrival). over (numbers_of x) numbers₀) a
          ∙ ap (λ (x : List ℕ). over x numbers₀) (numbers-back numbers times f.same),
      r.filled_times ∙ ap (λ (x : ℕ). if_none x (over (times_of (log_arrivals (take written.length out'))) times₀) times₀) y
          ∙ ap (λ (x : List Arrival). over (times_of x) times₀) a ∙ ap (λ (x : List ℕ). over x times₀) (times-back numbers times f.same),
    )
