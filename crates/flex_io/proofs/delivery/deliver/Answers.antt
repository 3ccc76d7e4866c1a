use Rattle.std.proofs.Common.{◌≡◌, ℕ, List, [], Option, Result, Ok, Err, true, false, is_err, IsOk, OnOk, OnErr, refl, sym, ◌∙◌, inl, inr, le_refl, append-nil}
use Rattle.std.proofs.KnownBytes.{Appends-nil}
use Rattle.std.specs.Io.KnownBytes.{Appends}
use Rattle.flex_io.specs.Sink.{SomePrefix, WritesAll, WritesPart}
use Rattle.flex_io.proofs.delivery.deliver.Goals as goal

-- what was found of a write that didn't fail
found_sound : {T E : Type 0} (r : Result T E) {P : Type 0} → is_err r ≡ false → OnOk r P → P
found_sound (Ok x) sound p = p
found_sound (Err e) sound p = absurd (cc sound)

module _ {K T E : Type 0} (held : K → Option (List ℕ)) (before after : K) (bytes : List ℕ) where
  -- a write that didn't fail wrote all its bytes
  all_written : (r : Result T E) → is_err r ≡ false → OnOk r (Appends (held before) (held after) bytes) → (bytes ≡ [] → after ≡ before) → WritesAll held before after bytes
  all_written r sound whole none = record { added = found_sound r sound whole; none = none }

  -- a write added a first part of its bytes, whether it failed or not
  part_written : (R : List ℕ → Type 0) (r : Result T E) → OnOk r (Appends (held before) (held after) bytes) → OnErr r (SomePrefix bytes (λ part. Appends (held before) (held after) part × R part)) → (bytes ≡ [] → after ≡ before) → WritesPart held before after bytes
  part_written R (Ok x) whole part none = record { added = (bytes, [], whole, sym (append-nil bytes)); none = none }
  part_written R (Err e) whole part none = record { added = (part.0, part.1, part.2.0, part.3); none = none }

-- what isn't written yet has an empty part written
none_written : {K : Type 0} (held : K → Option (List ℕ)) (k : K) (bytes : List ℕ) → WritesPart held k k bytes
none_written held k bytes = record { added = ([], bytes, Appends-nil (held k), refl); none = λ empty. refl }

-- what was found of a write that failed
found : {T E : Type 0} (r : Result T E) {P : Type 0} → is_err r ≡ true → OnErr r P → P
found (Ok x) failed p = absurd (cc failed)
found (Err e) failed p = p

-- a write that has room doesn't fail
no_room : {T E : Type 0} (r : Result T E) → is_err r ≡ true → ¬ (IsOk r)
no_room (Ok x) failed ok = cc failed
no_room (Err e) failed ok = cc ok

pub returns-then-is_err : goal.returns-then-is_err
returns-then-is_err g c =
    let out = c.put_all in
    let failed = sym c.is_err.ensures.value ∙ c.if-is_err.true in
    record {
      ended = λ no. absurd (no refl);
      whole = λ no. absurd (no refl);
      broke_off = λ broke. (
        part_written g.K.Sink.held _ _ _ _ out.result out.ensures.ok out.ensures.err out.ensures.nothing,
        none_written g.E.Sink.held _ _,
        λ room. no_room out.result failed (out.ensures.fits room.0),
      );
      write_fault = λ broke. inl (found out.result failed out.ensures.failed);
      out_steady = λ no. absurd (no refl);
      err_steady = λ no. absurd (no refl);
      out_counted = out.ensures.counted;
      err_counted = le_refl _;
    }

pub returns-then-is_err-2 : goal.returns-then-is_err-2
returns-then-is_err-2 g c =
    let out = c.put_all in
    let err = c.put_all-2 in
    let failed = sym c.is_err-2.ensures.value ∙ c.if-is_err-2.true in
    record {
      ended = λ no. absurd (no refl);
      whole = λ no. absurd (no refl);
      broke_off = λ broke. (
        part_written g.K.Sink.held _ _ _ _ out.result out.ensures.ok out.ensures.err out.ensures.nothing,
        part_written g.E.Sink.held _ _ _ _ err.result err.ensures.ok err.ensures.err err.ensures.nothing,
        λ room. no_room err.result failed (err.ensures.fits room.1),
      );
      write_fault = λ broke. inr (found err.result failed err.ensures.failed);
      out_steady = λ no. absurd (no refl);
      err_steady = λ no. absurd (no refl);
      out_counted = out.ensures.counted;
      err_counted = err.ensures.counted;
    }

pub returns : goal.returns
returns g c =
    let out = c.put_all in
    let err = c.put_all-2 in
    let sound = sym c.is_err.ensures.value ∙ c.if-is_err.false in
    let silent = sym c.is_err-2.ensures.value ∙ c.if-is_err-2.false in
    record {
      ended = λ _. refl;
      whole = λ _. (
        all_written g.K.Sink.held _ _ _ out.result sound out.ensures.ok out.ensures.nothing,
        all_written g.E.Sink.held _ _ _ err.result silent err.ensures.ok err.ensures.nothing,
      );
      broke_off = λ broke. absurd (c.requires broke);
      write_fault = λ broke. inl (absurd (c.requires broke));
      out_steady = λ _. found_sound out.result sound out.ensures.steady;
      err_steady = λ _. found_sound err.result silent err.ensures.steady;
      out_counted = out.ensures.counted;
      err_counted = err.ensures.counted;
    }
