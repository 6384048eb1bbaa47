mod WaitingRequests
mod Looking
mod Settled
mod Deadlines
