-- The account by the stream o of a call, if there is one: the bodies of its definitions, which ask `side_of` for it, so that a proof can
-- go by the cases of o. Assumes nothing.
use mathlib.Core.Option.{Option}
use Rattle.meter.specs.Streams.{Side, on_stream}
use Rattle.meter.specs.Account.{Call, Reply, part_after, reply_in, no_reply, Account, free_in, with_part}

-- the account after a call
abbrev pub account_for : Option Side → Account → Call → Account
account_for o account c = on_stream o account (λ (s : Side). with_part s (part_after (free_in account) (account s) c) account)

-- its reply to a call
abbrev pub reply_for : Option Side → Account → Call → Reply
reply_for o account c = on_stream o (no_reply c) (λ (s : Side). reply_in (account s) c)
