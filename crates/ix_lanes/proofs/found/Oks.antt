-- What holds of an answer that went through.
use Rattle.std.proofs.Common.{◌≡◌, true, Result, Ok, Err, is_ok, is_err, OnOk, OnErr}

pub from_ok : {A E : Type 0} {P : Type 0} (r : Result A E) → is_ok r ≡ true → OnOk r P → P
from_ok (Ok x) is h = h
from_ok (Err e) is h = cc

pub from_err : {A E : Type 0} {P : Type 0} (r : Result A E) → is_err r ≡ true → OnErr r P → P
from_err (Ok x) is h = cc
from_err (Err e) is h = h
