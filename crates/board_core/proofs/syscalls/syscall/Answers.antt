use Rattle.kernel_abi.specs.declared.syscalls.Syscall.TheVariants.{Send, Recv, Reply, SetTimer, BorrowRead, BorrowWrite, BorrowInfo, IrqControl, Panic, GetTimer, RefreshTaskId, Post, ReplyFault, IrqStatus}
use Rattle.board_core.proofs.SyscallRows.{row, row_over, no_row, of_any}
use Rattle.board_core.proofs.syscalls.syscall.Goals as goal

pub returns-in-Some-Send : goal.returns-in-Some-Send
returns-in-Some-Send boxes c = row _ _ _ c.args.caller c.register.result c.register.ensures Send _ c.in-Some-Send.field-0-is c.in-Some-Send.ensures c.send_anywhere.ensures

pub returns-in-Some-Recv : goal.returns-in-Some-Recv
returns-in-Some-Recv boxes c = row _ _ _ c.args.caller c.register.result c.register.ensures Recv _ c.in-Some-Recv.field-0-is c.in-Some-Recv.ensures c.receive.ensures

pub returns-in-Some-Reply : goal.returns-in-Some-Reply
returns-in-Some-Reply boxes c = row _ _ _ c.args.caller c.register.result c.register.ensures Reply _ c.in-Some-Reply.field-0-is c.in-Some-Reply.ensures c.reply.ensures

pub returns-in-Some-SetTimer : goal.returns-in-Some-SetTimer
returns-in-Some-SetTimer boxes c = row _ _ _ c.args.caller c.register.result c.register.ensures SetTimer _ c.in-Some-SetTimer.field-0-is c.in-Some-SetTimer.ensures c.set_timer.ensures

pub returns-in-Some-BorrowRead : goal.returns-in-Some-BorrowRead
returns-in-Some-BorrowRead boxes c = row _ _ _ c.args.caller c.register.result c.register.ensures BorrowRead _ c.in-Some-BorrowRead.field-0-is c.in-Some-BorrowRead.ensures c.borrow_read.ensures.performs

pub returns-in-Some-BorrowWrite : goal.returns-in-Some-BorrowWrite
returns-in-Some-BorrowWrite boxes c = row _ _ _ c.args.caller c.register.result c.register.ensures BorrowWrite _ c.in-Some-BorrowWrite.field-0-is c.in-Some-BorrowWrite.ensures c.borrow_write.ensures.performs

pub returns-in-Some-BorrowInfo : goal.returns-in-Some-BorrowInfo
returns-in-Some-BorrowInfo boxes c = row _ _ _ c.args.caller c.register.result c.register.ensures BorrowInfo _ c.in-Some-BorrowInfo.field-0-is c.in-Some-BorrowInfo.ensures c.borrow_info.ensures.performs

pub returns-in-Some-IrqControl : goal.returns-in-Some-IrqControl
returns-in-Some-IrqControl boxes c = row_over _ _ _ c.args.caller c.register.result c.register.ensures IrqControl _ c.in-Some-IrqControl.field-0-is c.in-Some-IrqControl.ensures c.control_lines.ensures

pub returns-in-Some-Panic : goal.returns-in-Some-Panic
returns-in-Some-Panic boxes c = row _ _ _ c.args.caller c.register.result c.register.ensures Panic _ c.in-Some-Panic.field-0-is c.in-Some-Panic.ensures (of_any _ _ _ _ c.panic.ensures.stands c.panic.ensures.frame)

pub returns-in-Some-GetTimer : goal.returns-in-Some-GetTimer
returns-in-Some-GetTimer boxes c = row _ _ _ c.args.caller c.register.result c.register.ensures GetTimer _ c.in-Some-GetTimer.field-0-is c.in-Some-GetTimer.ensures c.get_timer.ensures

pub returns-in-Some-RefreshTaskId : goal.returns-in-Some-RefreshTaskId
returns-in-Some-RefreshTaskId boxes c = row _ _ _ c.args.caller c.register.result c.register.ensures RefreshTaskId _ c.in-Some-RefreshTaskId.field-0-is c.in-Some-RefreshTaskId.ensures c.refresh.ensures

pub returns-in-Some-Post : goal.returns-in-Some-Post
returns-in-Some-Post boxes c = row _ _ _ c.args.caller c.register.result c.register.ensures Post _ c.in-Some-Post.field-0-is c.in-Some-Post.ensures c.post_call.ensures

pub returns-in-Some-ReplyFault : goal.returns-in-Some-ReplyFault
returns-in-Some-ReplyFault boxes c = row _ _ _ c.args.caller c.register.result c.register.ensures ReplyFault _ c.in-Some-ReplyFault.field-0-is c.in-Some-ReplyFault.ensures c.reply_fault.ensures

pub returns-in-Some-IrqStatus : goal.returns-in-Some-IrqStatus
returns-in-Some-IrqStatus boxes c = row_over _ _ _ c.args.caller c.register.result c.register.ensures IrqStatus _ c.in-Some-IrqStatus.field-0-is c.in-Some-IrqStatus.ensures c.answer_lines.ensures

pub returns-in-None : goal.returns-in-None
returns-in-None boxes c = no_row _ _ _ c.args.caller c.register.result c.register.ensures c.in-None.ensures (of_any _ _ _ _ c.misuse.ensures.stands c.misuse.ensures.frame)
