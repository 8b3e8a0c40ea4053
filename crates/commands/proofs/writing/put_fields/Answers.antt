use Rattle.commands.proofs.Front.{front_stays}
use Rattle.commands.proofs.writing.put_fields.Goals as goal

pub returns-in_ok-put_message_id-in-Message-clause-err :
    goal.returns-in_ok-put_message_id-in-Message-clause-err
returns-in_ok-put_message_id-in-Message-clause-err c =
    let id = c.in_ok-put_message_id-in-Message.ensures.ok in
    let number = c.in_ok-put_number-in-Message.ensures.ok in
    front_stays _ _ _ _ _ number (front_stays _ _ _ _ _ id c.put_count.ensures.err)

pub returns-in_ok-put_number-in-Error-clause-err :
    goal.returns-in_ok-put_number-in-Error-clause-err
returns-in_ok-put_number-in-Error-clause-err c =
    front_stays _ _ _ _ _ c.in_ok-put_number-in-Error.ensures.ok c.put_error-in-Error.ensures.err
